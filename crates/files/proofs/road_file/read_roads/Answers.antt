use Rattle.std.proofs.Common.{◌≤◌, min, subst, arith}
use Rattle.files.specs.Tables.{tables}
use Rattle.files.specs.Files.{ReadAs}
use Rattle.files.specs.RoadFile.{road_tables}
use Rattle.files.proofs.RoadFileMapped.{maps_the_roads}
use Rattle.files.proofs.road_file.read_roads.Goals as goal

pub returns : goal.returns
returns c =
    let most : min c.args.room 9600 ≤ 9600 = omega arith in
    let read = subst (λ n. ReadAs tables c.read_tables.result (road_tables n c.args.text.now)) c.min.ensures c.read_tables.ensures in
    record { tables_or_first_fault = read; tables_map_the_roads = maps_the_roads (min c.args.room 9600) c.args.text.now c.read_tables.result most read }
