use Rattle.std.proofs.Common.{◌≡◌, ◌+◌, Ok, sym, ◌∙◌, ⊎_elim}
use Rattle.std.specs.Iterator.Adapters.{enumerate_source, enumerate_count, zip_first, zip_second}
use Rattle.std.specs.Slice.Iter.{iter_rest}
use Rattle.files.specs.Lines.{pieces}
use Rattle.files.specs.FieldsLeft.{fields_left}
use Rattle.files.specs.Values.{fields_filled}
use Rattle.files.proofs.RowFilled.{no_column, no_field, whole_row}
use Rattle.files.proofs.columns.read_row.Goals as goal

pub returns : goal.returns
returns g c =
    let fill = g.C.Column.filled c.args.room in
    let n = enumerate_count c.loop-before.before-iterator + 1 in
    let pairs = enumerate_source c.loop-before.before-iterator in
    let cs = iter_rest (zip_first pairs) in
    let fs = fields_left (zip_second pairs) in
    let row = c.loop-before.row in
    let filled : fields_filled fill n cs fs row ≡ Ok row =
    ⊎_elim (λ e. no_column fill n cs fs row e.1.0) (λ e. no_field fill n cs fs row e.1.0) c.in-None.ensures.steps.0 in
    sym (whole_row fill c.args.columns.now c.args.blank (pieces 32 c.args.line.now) row c.if-not-is_parted.ensures (c.loop-before.invariant ∙ filled))
