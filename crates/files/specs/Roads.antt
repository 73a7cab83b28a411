-- A road line: its columns by name, and the values in them.
use Rattle.std.specs.Prelude.{ℕ, Bool, cond, ◌&&◌, List, [], ◌∷◌, ℤ, pos, negsuc, Some, None, Ok, Err, codes, Option, Result, ◌==◌, int_le, nat_le, nat_lt}
use Rattle.std.specs.Str.{bytes_eq}
use Rattle.refusals.specs.declared.refusal.Refusal.TheVariants.{JunctionBeyondRoom, RoadTimeOutOfRange, RoadDrawOutOfRange}
use Rattle.files.specs.declared.fault.LineFault.{LineFault}
use Rattle.files.specs.declared.roads.RoadColumn.{RoadColumn}
use Rattle.files.specs.declared.roads.RoadColumn.TheVariants.{From, To, Seconds, WattHours}
use Rattle.files.specs.declared.roads.RoadLine.{RoadLine}
use Rattle.files.specs.Faults.{Checked, then}
use Rattle.files.specs.Lines.{pieces}
use Rattle.files.specs.Names.{names_line}
use Rattle.files.specs.Values.{value, signed_value, value_line}

abbrev pub road_columns : List RoadColumn
road_columns = From ∷ To ∷ Seconds ∷ WattHours ∷ []

abbrev pub road_number : RoadColumn → ℕ
road_number From = 0
road_number To = 1
road_number Seconds = 2
road_number WattHours = 3

-- columns are told apart by their numbers
abbrev pub road_same : RoadColumn → RoadColumn → Bool
road_same c d = road_number c == road_number d

abbrev pub road_named : List ℕ → Option RoadColumn
road_named f =
    cond (bytes_eq f (codes "from")) (Some From)
    (cond (bytes_eq f (codes "to")) (Some To)
    (cond (bytes_eq f (codes "seconds")) (Some Seconds)
    (cond (bytes_eq f (codes "watthours")) (Some WattHours) None)))

abbrev pub junction : ℕ → List ℕ → Checked ℕ
junction room f = then (value f) (λ v. cond (nat_lt v room) (Ok v) (Err JunctionBeyondRoom))

abbrev pub seconds : List ℕ → Checked ℕ
seconds f = then (value f) (λ v. cond (nat_le 1 v && nat_le v 7200) (Ok v) (Err RoadTimeOutOfRange))

abbrev pub watt_hours : List ℕ → Checked ℤ
watt_hours f = then (signed_value f) (λ v. cond (int_le (negsuc 99999) v && int_le v (pos 100000)) (Ok v) (Err RoadDrawOutOfRange))

-- the road line with what the field of one column holds
abbrev pub road_filled : ℕ → RoadLine → RoadColumn → List ℕ → Checked RoadLine
road_filled room r From f = then (junction room f) (λ v. Ok (record { from = v; to = r.to; seconds = r.seconds; draw = r.draw }))
road_filled room r To f = then (junction room f) (λ v. Ok (record { from = r.from; to = v; seconds = r.seconds; draw = r.draw }))
road_filled room r Seconds f = then (seconds f) (λ v. Ok (record { from = r.from; to = r.to; seconds = v; draw = r.draw }))
road_filled room r WattHours f = then (watt_hours f) (λ v. Ok (record { from = r.from; to = r.to; seconds = r.seconds; draw = v }))

-- before its fields are read
abbrev pub blank_road : RoadLine
blank_road = record { from = 0; to = 0; seconds = 0; draw = pos 0 }

abbrev pub road_names_line : List ℕ → Result (List RoadColumn) LineFault
road_names_line p = names_line road_same road_named road_columns (pieces 32 p)

abbrev pub road_line : ℕ → List RoadColumn → List ℕ → Result RoadLine LineFault
road_line room cs p = value_line (road_filled room) cs blank_road (pieces 32 p)
