-- Reading a profile at a starting charge: the bridge from the profile kind to the charge kind.
use Rattle.std.specs.Prelude.{ℕ, Some, None, Option}
use Rattle.std.specs.Option.{option_map}
use Rattle.loads.specs.declared.charge.Charge.{Charge}
use Rattle.loads.specs.declared.profile.Profile.{Profile}
use Rattle.loads.specs.Charge.{charge}
use Rattle.loads.specs.Profile.{charge_when_started_with}

-- the charge that a profile tells of a van that started with b, or none where that van is not here
abbrev pub read_at : ℕ → Profile → Option Charge
read_at b f = option_map charge (charge_when_started_with f b)

-- what f gives of the value that is there, or none where there is none
abbrev pub and_then : {X Y : Type 0} → Option X → (X → Option Y) → Option Y
and_then None f = None
and_then (Some x) f = f x
