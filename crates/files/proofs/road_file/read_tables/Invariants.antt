use Rattle.std.proofs.Common.{◌≡◌, true, length, vec_len}
use Rattle.files.specs.declared.fault.FileName.TheVariants.{Roads}
use Rattle.files.specs.Lines.{pieces}
use Rattle.files.specs.LinesLeft.{lines_left}
use Rattle.files.specs.Names.{all_among}
use Rattle.files.specs.Roads.{road_same, road_columns}
use Rattle.files.specs.Tables.{tables, empty_tables}
use Rattle.files.specs.Files.{lines_read}
use Rattle.files.specs.RoadFile.{road_taken, road_file}
use Rattle.files.proofs.road_file.read_tables.Given as goal

abbrev pub invariant-loop-tables : goal.invariant-loop-tables
invariant-loop-tables l =
    (l.lines.file ≡ Roads)
    × (vec_len l.tables.counts ≡ l.fn.room)
    × (all_among road_same road_columns l.columns ≡ true)
    × (road_file l.fn.room (empty_tables l.fn.room) (pieces 10 l.fn.text) ≡ lines_read Roads (road_taken l.fn.room l.columns) l.lines.taken (tables l.tables) (lines_left l.lines))

abbrev pub decreases-loop-tables : goal.decreases-loop-tables
decreases-loop-tables l = length (lines_left l.lines)
