use Rattle.std.proofs.Common.{◌≡◌, ◌-◌}
use Rattle.files.specs.Lines.{pieces}
use Rattle.files.specs.Fields.{parted}
use Rattle.files.specs.FieldsLeft.{fields_left}
use Rattle.files.proofs.fields.is_parted.Given as goal

abbrev pub invariant-loop : goal.invariant-loop
invariant-loop l = parted l.count (pieces 32 l.line) ≡ parted (l.count - l.counter) (fields_left l.fields)
