use Rattle.std.proofs.Common.{sym, ap, arith, codes}
use Rattle.std.proofs.lemmas.Slice.Eq.{text_from_reads}
use Rattle.files.specs.Queries.{query_named}
use Rattle.files.proofs.queries.QueryColumnColumn.from_name.Goals as goal

pub returns-in-charge : goal.returns-in-charge
returns-in-charge c = sym (ap query_named (text_from_reads c.args.name.now (codes "charge") (omega arith) (omega arith, (omega arith, (omega arith, (omega arith, (omega arith, (omega arith, tt))))))))

pub returns-in-capacity : goal.returns-in-capacity
returns-in-capacity c = sym (ap query_named (text_from_reads c.args.name.now (codes "capacity") (omega arith) (omega arith, (omega arith, (omega arith, (omega arith, (omega arith, (omega arith, (omega arith, (omega arith, tt))))))))))

pub returns-in-deadline : goal.returns-in-deadline
returns-in-deadline c = sym (ap query_named (text_from_reads c.args.name.now (codes "deadline") (omega arith) (omega arith, (omega arith, (omega arith, (omega arith, (omega arith, (omega arith, (omega arith, (omega arith, tt))))))))))

pub returns-in-heater : goal.returns-in-heater
returns-in-heater c = sym (ap query_named (text_from_reads c.args.name.now (codes "heater") (omega arith) (omega arith, (omega arith, (omega arith, (omega arith, (omega arith, (omega arith, tt))))))))
