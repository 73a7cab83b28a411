-- The worked query and its front, and what a search for it answers.
use Rattle.std.specs.Prelude.{◌≡◌, ℕ, ◌≤◌, List, [], ◌∷◌, length, Ok}
use Rattle.maps.specs.Rows.{Rows}
use Rattle.loads.specs.declared.charge.Charge.{Charge}
use Rattle.loads.specs.Charge.{charge, charges}
use Rattle.front.specs.declared.arrival.Arrival.{Arrival}
use Rattle.front.specs.Walks.{Query}
use Rattle.charts.specs.Trips.{arrival_at}
use Rattle.promises.specs.declared.standing.Progress.{Progress}
use Rattle.promises.specs.declared.standing.Standing.{Standing}
use Rattle.promises.specs.Numbers.{Numbers, Tables}
use Rattle.promises.specs.StandsFor.{StandsFor}
use Rattle.promises.specs.Begin.{query}
use Rattle.promises.specs.Advance.{AdvancePromise}
use Rattle.worked.specs.WorkedMaps.{worked_rows}

-- the arrival with this time and charge at this junction
abbrev pub charged : ℕ → ℕ → ℕ → Arrival Charge
charged time level junction = arrival_at junction time (charge level)

-- from 0 to 3 with the charge 1,000, under the capacity 1,000, within 999 seconds, on the rows of a map
abbrev pub query_on : Rows → Query Charge
query_on rows = query rows (charges 1000) 0 (charge 1000) 3 999

abbrev pub worked_query : Query Charge
worked_query = query_on worked_rows

-- time, charge and junction of each
abbrev pub worked_front : List (Arrival Charge)
worked_front = charged 0 1000 0 ∷ charged 40 300 2 ∷ charged 60 700 1 ∷ charged 70 50 3 ∷ charged 110 300 3 ∷ []

-- what an advance answers: its standing, the labels that it listed, and those listed in all
abbrev pub progress : Standing → ℕ → ℕ → Progress
progress standing now all = record { standing = standing; listed_now = now; listed_in_all = all }

-- of a search that stands for the worked query, with a label table of so many records, so many of them listed: an accepted advance with a budget of five labels or more answers this
abbrev pub AdvanceAnswers : ℕ → ℕ → Progress → Type 0
AdvanceAnswers room listed answer = (budget : ℕ) (t : Tables Charge) (s s' : Numbers) (p : Progress) → length t.labels ≡ room → s.listed ≡ listed → 5 ≤ budget
    → StandsFor worked_query s t.labels t.waiting → AdvancePromise worked_rows (charges 1000) budget t s s' (Ok p) → p ≡ answer
