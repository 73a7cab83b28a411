use Rattle.std.proofs.Common.{sym, ap, arith, codes}
use Rattle.std.proofs.lemmas.Slice.Eq.{text_from_reads}
use Rattle.files.specs.Roads.{road_named}
use Rattle.files.proofs.roads.RoadColumnColumn.from_name.Goals as goal

pub returns-in-seconds : goal.returns-in-seconds
returns-in-seconds c = sym (ap road_named (text_from_reads c.args.name.now (codes "seconds") (omega arith) (omega arith, (omega arith, (omega arith, (omega arith, (omega arith, (omega arith, (omega arith, tt)))))))))

pub returns-in-watthours : goal.returns-in-watthours
returns-in-watthours c = sym (ap road_named (text_from_reads c.args.name.now (codes "watthours") (omega arith) (omega arith, (omega arith, (omega arith, (omega arith, (omega arith, (omega arith, (omega arith, (omega arith, (omega arith, tt)))))))))))
