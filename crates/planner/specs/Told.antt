-- What is told where an advance stops.
use Rattle.std.specs.Prelude.{◌≡◌, ℕ, ◌<◌, List, length, slice_index_or}
use Rattle.loads.specs.declared.charge.Charge.{Charge}
use Rattle.front.specs.declared.label.Label.{Label}
use Rattle.front.specs.declared.leg.Leg.{Leg}
use Rattle.front.specs.Walks.{Query}
use Rattle.front.specs.Legs.{Stored}
use Rattle.front.specs.Labels.{TracedWalk}
use Rattle.promises.specs.declared.candidate.Candidate.{Candidate}
use Rattle.promises.specs.declared.standing.Standing.{Standing}
use Rattle.promises.specs.declared.standing.Standing.TheVariants.{Paused, Arrived, Ended, Full}
use Rattle.promises.specs.Numbers.{Numbers}
use Rattle.promises.specs.StandsFor.{StandsFor}
use Rattle.planner.specs.declared.answer.Answer.{Answer}
use Rattle.planner.specs.declared.answer.Answer.TheVariants.{Route, NoRoute, Full as FullTables}

-- where the search stands for a query, the label of this number, if it is listed, has a walk of so many roads
abbrev pub RoadsOf : Numbers → List (Label Charge) → ℕ → ℕ → Type 0
RoadsOf s ls n count =
    (q : Query Charge) (ws : List (Candidate Charge)) → StandsFor q s ls ws → n < s.listed
    → (w : List (Leg Charge)) × (x : Label Charge) × Stored ls n x × TracedWalk q ls n x w × (count ≡ length w)

-- the answer for a standing: the route of the label that arrived, with the number of its roads
abbrev pub ToldBy : Numbers → List (Label Charge) → Standing → Answer → Type 0
ToldBy s ls (Arrived n) answer =
    (roads : ℕ) × RoadsOf s ls n roads
    × ((d : Label Charge) → let a = (slice_index_or ls n d).arrival in answer ≡ Route (record { seconds = a.time; charge = a.load.level; roads = roads }))
ToldBy s ls Ended answer = answer ≡ NoRoute
ToldBy s ls Full answer = answer ≡ FullTables
ToldBy s ls Paused answer = answer ≡ FullTables
