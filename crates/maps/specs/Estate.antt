-- An estate: junctions in rows and columns, each with roads to its neighbours.
use Rattle.std.specs.Prelude.{ℕ, ◌+◌, ◌-◌, ◌*◌, ◌/◌, ◌%◌, cond, ◌||◌, pos, ◌-ℤ◌, Some, None, Option, ◌==◌, nat_lt}
use Rattle.maps.specs.declared.estate.EstateNumbers.{EstateNumbers}
use Rattle.maps.specs.declared.road.Road.{Road}
use Rattle.refusals.specs.declared.refusal.Refusal.{Refusal}
use Rattle.refusals.specs.declared.refusal.Refusal.TheVariants.{EstateSizeOutOfRange, RoadTimeOutOfRange, EstateDrawTooHigh}
use Rattle.maps.specs.Rows.{Rows, tabulated}

-- what stands at place k of junction v
abbrev pub estate_place : EstateNumbers → ℕ → ℕ → Option Road
estate_place numbers v k =
    cond (k == 0) (cond (nat_lt (v / numbers.width + 1) numbers.height) (Some (record { head = v + numbers.width; seconds = numbers.seconds; draw = pos (numbers.flat + numbers.rise) })) None)
    (cond (k == 1) (cond (nat_lt (v % numbers.width + 1) numbers.width) (Some (record { head = v + 1; seconds = numbers.seconds; draw = pos numbers.flat })) None)
    (cond (k == 2) (cond (nat_lt 0 (v / numbers.width)) (Some (record { head = v - numbers.width; seconds = numbers.seconds; draw = pos numbers.flat -ℤ pos numbers.rise })) None)
    (cond (k == 3) (cond (nat_lt 0 (v % numbers.width)) (Some (record { head = v - 1; seconds = numbers.seconds; draw = pos numbers.flat })) None)
    None)))

abbrev pub estate_rows : EstateNumbers → Rows
estate_rows numbers = tabulated (numbers.width * numbers.height) (estate_place numbers)

-- the first check that the numbers of an estate fail
abbrev pub estate_refusal : EstateNumbers → Option Refusal
estate_refusal numbers =
    cond (numbers.width == 0 || numbers.height == 0 || nat_lt 9600 (numbers.width * numbers.height)) (Some EstateSizeOutOfRange)
    (cond (numbers.seconds == 0 || nat_lt 7200 numbers.seconds) (Some RoadTimeOutOfRange)
    (cond (nat_lt 50000 numbers.flat || nat_lt 50000 numbers.rise) (Some EstateDrawTooHigh)
    None))
