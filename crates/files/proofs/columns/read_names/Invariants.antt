use Rattle.std.proofs.Common.{◌≡◌, ◌+◌, [], length, take}
use Rattle.std.specs.Iterator.Adapters.{enumerate_source, enumerate_count}
use Rattle.files.specs.Lines.{pieces}
use Rattle.files.specs.FieldsLeft.{fields_left}
use Rattle.files.specs.Names.{columns_named}
use Rattle.files.proofs.columns.read_names.Given as goal

abbrev pub invariant-loop-place : goal.invariant-loop-place
invariant-loop-place g l =
    let places = l.place-iterator in
    (length (fields_left (enumerate_source places)) + enumerate_count places ≡ g.row.N)
    × (columns_named g.C.Column.named [] (pieces 32 l.line) ≡ columns_named g.C.Column.named (take (enumerate_count places) l.columns) (fields_left (enumerate_source places)))
