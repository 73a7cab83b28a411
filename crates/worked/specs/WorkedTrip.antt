-- The worked trip: the worked query for all starting charges together, and its chart.
use Rattle.std.specs.Prelude.{ℕ, ◌≤◌, List, [], ◌∷◌}
use Rattle.loads.specs.declared.profile.Profile.{Profile}
use Rattle.loads.specs.Profile.{profile}
use Rattle.front.specs.declared.arrival.Arrival.{Arrival}
use Rattle.front.specs.Walks.{Walk}
use Rattle.charts.specs.declared.row.Row.{Row}
use Rattle.charts.specs.Trips.{Trip, arrival_at, DrivableWith}
use Rattle.worked.specs.WorkedMaps.{worked_rows}

abbrev pub worked_trip : Trip
worked_trip = record { rows = worked_rows; capacity = 1000; start = 0; goal = 3; deadline = 999 }

-- the front of the trip under the profile kind
abbrev pub worked_profile_front : List (Arrival Profile)
worked_profile_front =
    arrival_at 0 0 (profile 0 0 1000)
    ∷ arrival_at 2 40 (profile 700 0 300)
    ∷ arrival_at 1 60 (profile 300 0 700)
    ∷ arrival_at 3 70 (profile 950 0 50)
    ∷ arrival_at 3 110 (profile 700 0 300)
    ∷ []

abbrev pub row : ℕ → ℕ → ℕ → Row
row need seconds label = record { need = need; seconds = seconds; label = label }

abbrev pub worked_chart : List Row
worked_chart = row 950 70 3 ∷ row 700 110 4 ∷ []

-- with the starting charge b, some drivable walk to the trip's goal takes this many seconds, and none is faster
pub record LeastTime (t : Trip) (b seconds : ℕ) : Type 0 where
  pub some_walk_takes_them : (w : Walk) × DrivableWith t b w t.goal seconds
  pub no_walk_is_faster : (w : Walk) (s : ℕ) → DrivableWith t b w t.goal s → seconds ≤ s
