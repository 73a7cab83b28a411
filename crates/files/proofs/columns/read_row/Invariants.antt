use Rattle.std.proofs.Common.{◌≡◌, ◌+◌}
use Rattle.std.specs.Iterator.Adapters.{enumerate_source, enumerate_count, zip_first, zip_second}
use Rattle.std.specs.Slice.Iter.{iter_rest}
use Rattle.files.specs.Lines.{pieces}
use Rattle.files.specs.FieldsLeft.{fields_left}
use Rattle.files.specs.Values.{fields_filled}
use Rattle.files.proofs.columns.read_row.Given as goal

abbrev pub invariant-loop-before : goal.invariant-loop-before
invariant-loop-before g l =
    let pairs = enumerate_source l.before-iterator in
    fields_filled (g.C.Column.filled l.room) 1 l.columns (pieces 32 l.line) l.initial.row ≡ fields_filled (g.C.Column.filled l.room) (enumerate_count l.before-iterator + 1) (iter_rest (zip_first pairs)) (fields_left (zip_second pairs)) l.row
