-- What charts tell, where the loads of a search are profiles.
use Rattle.std.specs.Prelude.{◌≡◌, ℕ, true, take, Ok, Err, Result}
use Rattle.refusals.specs.declared.refusal.Refusal.{Refusal}
use Rattle.loads.specs.declared.profile.Profile.{Profile}
use Rattle.loads.specs.Profile.{profiles}
use Rattle.front.specs.Walks.{Query}
use Rattle.charts.specs.Trips.{Trip}
use Rattle.charts.specs.Chart.{RowsTellLeastTimes, NoWalkWithoutARow}
use Rattle.promises.specs.Numbers.{Numbers}
use Rattle.promises.specs.Chart.{Charting}
use Rattle.promises.specs.Runs.{History, Run}
use Rattle.promises.specs.Law.{State, Keeps}

-- the trip of a query, for vans of this capacity that start with one charge
abbrev pub trip_of : Query Profile → ℕ → Trip
trip_of q capacity = record { rows = q.rows; capacity = capacity; start = q.start; goal = q.goal; deadline = q.deadline }

-- an accepted chart that was shown the search's kind and labels: each row tells the least time of each starting charge that it covers;
-- once the search has ended, an admitted charge without a row has no drivable walk to the goal
abbrev pub RowsTold : Query Profile → State Profile → Charting → Result ℕ Refusal → Type 0
RowsTold q o c (Ok count) =
    profiles c.capacity ≡ q.kind → c.labels ≡ o.labels
    → RowsTellLeastTimes (trip_of q c.capacity) (take count c.rows_after)
    × (o.ended ≡ true → NoWalkWithoutARow (trip_of q c.capacity) (take count c.rows_after))
RowsTold q o c (Err e) = Unit {0}

abbrev pub ToldByCharts : Query Profile → State Profile → Charting → Type 0
ToldByCharts q o c = RowsTold q o c c.answer

-- every run over profiles keeps the law, charts among its calls
abbrev pub ProfileLaw : Type 0
ProfileLaw = (h : History Profile) (s : Numbers) → Run h s → Keeps ToldByCharts h
