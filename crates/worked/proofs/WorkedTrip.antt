-- The chart of the worked trip.
use Rattle.std.proofs.Common.{◌≡◌, ℕ, zero, suc, ◌<◌, ◌≤◌, cond, List, [], ◌∷◌, ◌++◌, Some, None, Option, refl, ap, ◌∙◌, arith}
use Rattle.loads.specs.declared.profile.Profile.{Profile}
use Rattle.loads.specs.Profile.{profile}
use Rattle.front.specs.declared.arrival.Arrival.{Arrival}
use Rattle.front.specs.declared.label.Label.{Label}
use Rattle.front.specs.Walks.{Valid, Walk}
use Rattle.front.specs.Front.{IsFront}
use Rattle.front.specs.Labels.{arrivals}
use Rattle.front.specs.Invariant.{Invariant}
use Rattle.front.proofs.ListedLabels.{nothing_waits_so_the_front_is_listed}
use Rattle.front.proofs.OneBeginning.{one_front}
use Rattle.charts.specs.declared.row.Row.{Row}
use Rattle.charts.specs.Trips.{ValidTrip, profile_query, arrival_at, DrivableWith}
use Rattle.charts.specs.Chart.{gets_row, row_of, rows_from, chart, Covers, TellsLeastTime, RowsTellLeastTimes, NoWalkWithoutARow}
use Rattle.charts.proofs.Trips.{profile_query_is_valid}
use Rattle.charts.proofs.LeastTimes.{rows_tell_least_times, nothing_waits_so_no_walk_without_a_row}
use Rattle.worked.specs.WorkedTrip.{worked_trip, worked_profile_front, worked_chart, LeastTime}
use Rattle.worked.proofs.FrontTestSound.{nothing_waits}
use Rattle.worked.proofs.WorkedMaps.{worked_map_is_sound, worked_place, worked_places}
use Rattle.worked.proofs.WorkedQuery.{label}

labels : List (Label Profile)
labels = label (arrival_at 0 0 (profile 0 0 1000)) 0 0 ∷ label (arrival_at 2 40 (profile 700 0 300)) 0 1 ∷ label (arrival_at 1 60 (profile 300 0 700)) 0 0 ∷ label (arrival_at 3 70 (profile 950 0 50)) 1 0 ∷ label (arrival_at 3 110 (profile 700 0 300)) 2 0 ∷ []

worked_trip_is_valid : ValidTrip worked_trip
worked_trip_is_valid = record { sound = worked_map_is_sound; capacity_at_least_1 = omega arith; capacity_at_most_100000 = omega arith }

trip_query_is_valid : Valid (profile_query worked_trip)
trip_query_is_valid = profile_query_is_valid worked_trip worked_trip_is_valid

invariant : Invariant (profile_query worked_trip) labels []
unfolding labels
invariant = nothing_waits (profile_query worked_trip) trip_query_is_valid 4 worked_place worked_places labels refl

pub front_of_the_worked_trip : IsFront (profile_query worked_trip) worked_profile_front
unfolding labels
front_of_the_worked_trip = nothing_waits_so_the_front_is_listed (profile_query worked_trip) trip_query_is_valid labels invariant

-- the chart asks of the labels only where they arrive
same_arrivals_same_rows : (goal n : ℕ) (least : Option ℕ) (xs ys : List (Label Profile)) → arrivals xs ≡ arrivals ys → rows_from goal n least xs ≡ rows_from goal n least ys
same_arrivals_same_rows goal n least [] [] e = refl
same_arrivals_same_rows goal n least [] (y ∷ ys) e = absurd (let z : ◌≡◌ {A = ℕ} 0 1 = cc in omega arith)
same_arrivals_same_rows goal n least (x ∷ xs) [] e = absurd (let z : ◌≡◌ {A = ℕ} 0 1 = cc in omega arith)
same_arrivals_same_rows goal n least (x ∷ xs) (y ∷ ys) e =
    let p : x.arrival ≡ y.arrival = cc in
    let r : arrivals xs ≡ arrivals ys = cc in
    ap (λ (a : Arrival Profile). rows_from goal n least (label a 0 0 ∷ xs)) p
    ∙ ap (λ (rows : List Row). cond (gets_row goal least y) (row_of n y ∷ []) [] ++ rows) (same_arrivals_same_rows goal (suc n) (cond (gets_row goal least y) (Some y.arrival.load.need) least) xs ys r)

pub chart_of_the_worked_trip : (ls : List (Label Profile)) → IsFront (profile_query worked_trip) (arrivals ls) → chart worked_trip.goal ls ≡ worked_chart
unfolding labels
chart_of_the_worked_trip ls f = same_arrivals_same_rows 3 0 None ls labels (one_front (profile_query worked_trip) trip_query_is_valid (arrivals ls) worked_profile_front f front_of_the_worked_trip)

pub its_rows_tell_least_times : RowsTellLeastTimes worked_trip worked_chart
unfolding labels
its_rows_tell_least_times = rows_tell_least_times worked_trip worked_trip_is_valid labels [] invariant

pub no_walk_without_a_row : NoWalkWithoutARow worked_trip worked_chart
unfolding labels
no_walk_without_a_row = nothing_waits_so_no_walk_without_a_row worked_trip worked_trip_is_valid labels invariant

pub from_950_on_the_least_time_is_70 : (b : ℕ) → 950 ≤ b → b ≤ 1000 → LeastTime worked_trip b 70
from_950_on_the_least_time_is_70 b low high =
    let t : TellsLeastTime worked_trip worked_chart 0 b = its_rows_tell_least_times 0 b (record { is_a_row = omega arith; from_its_need = low; below_the_row_before = high }) in
    record { some_walk_takes_them = t.some_walk_takes_its_seconds; no_walk_is_faster = t.no_walk_is_faster }

pub from_700_to_949_the_least_time_is_110 : (b : ℕ) → 700 ≤ b → b ≤ 949 → LeastTime worked_trip b 110
from_700_to_949_the_least_time_is_110 b low high =
    let t : TellsLeastTime worked_trip worked_chart 1 b = its_rows_tell_least_times 1 b (record { is_a_row = omega arith; from_its_need = low; below_the_row_before = omega arith }) in
    record { some_walk_takes_them = t.some_walk_takes_its_seconds; no_walk_is_faster = t.no_walk_is_faster }

pub up_to_699_there_is_no_row : (i b : ℕ) → b ≤ 699 → Covers worked_trip.capacity worked_chart i b → ⊥
up_to_699_there_is_no_row zero b few c = let h : 950 ≤ b = c.from_its_need in omega arith
up_to_699_there_is_no_row (suc zero) b few c = let h : 700 ≤ b = c.from_its_need in omega arith
up_to_699_there_is_no_row (suc (suc i)) b few c = let h : suc (suc i) < 2 = c.is_a_row in omega arith

pub up_to_699_there_is_no_drivable_walk : (b : ℕ) → b ≤ 699 → (w : Walk) (s : ℕ) → DrivableWith worked_trip b w worked_trip.goal s → ⊥
up_to_699_there_is_no_drivable_walk b few w s d = no_walk_without_a_row b (omega arith) (λ i c. up_to_699_there_is_no_row i b few c) w s d
