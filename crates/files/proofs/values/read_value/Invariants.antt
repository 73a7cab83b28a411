use Rattle.std.proofs.Common.{◌≡◌, ◌^◌, ◌<◌, drop}
use Rattle.files.specs.Values.{numeral, all_digits}
use Rattle.files.proofs.values.read_value.Given as goal

abbrev pub invariant-loop-digit : goal.invariant-loop-digit
invariant-loop-digit l =
    (numeral 0 l.field ≡ numeral l.value (drop l.digit-index l.field))
    × (all_digits l.field ≡ all_digits (drop l.digit-index l.field))
    × (l.value < 10 ^ l.digit-index)
