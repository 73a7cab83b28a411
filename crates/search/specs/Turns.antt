-- What one turn of an advance does. Nothing on this page has to be believed: the promises do not speak of it.
use Rattle.std.specs.Prelude.{◌≡◌, ℕ, ◌+◌, ◌≤◌, List, length, take, drop, Some, None, Option, ◌==◌, ◌≢◌, slice_set}
use Rattle.std.specs.Bool.{then_some}
use Rattle.maps.specs.Rows.{Rows}
use Rattle.loads.specs.Meaning.{Meaning}
use Rattle.front.specs.declared.label.Label.{Label}
use Rattle.front.specs.Walks.{Query}
use Rattle.front.specs.Legs.{Stored}
use Rattle.queue.specs.declared.heap.Heap.{Heap}
use Rattle.queue.specs.Waiting.{waiting, InHeapOrder}
use Rattle.promises.specs.declared.candidate.Candidate.{Candidate}
use Rattle.promises.specs.declared.standing.Standing.{Standing}
use Rattle.promises.specs.declared.standing.Standing.TheVariants.{Paused, Arrived, Ended, Full}
use Rattle.promises.specs.Numbers.{Numbers, KeepsItsQuery, Tables}
use Rattle.promises.specs.Order.{leaves_before}
use Rattle.promises.specs.StandsFor.{StandsFor}
use Rattle.promises.specs.Advance.{EveryUnbeatenListed, SomeUnbeatenUnlisted, LabelAt}
use Rattle.search.specs.Steps.{offer, GrownBy}

-- what a turn says that found a labels listed and left b: none where the advance goes on
abbrev pub TurnSays : {L : Type 0} → Query L → ℕ → ℕ → List (Label L) → Option Standing → Type 0
TurnSays {L} q a b ls None = (x : Label L) → Stored ls a x → x.arrival.junction ≢ q.goal
TurnSays q a b ls (Some Paused) = ⊥
TurnSays q a b ls (Some (Arrived n)) = (n ≡ a) × LabelAt ls a q.goal
TurnSays q a b ls (Some Ended) = EveryUnbeatenListed q ls b
TurnSays q a b ls (Some Full) = (b ≡ length ls) × SomeUnbeatenUnlisted q ls b

-- how many labels a turn listed
abbrev pub listed_by : Option Standing → ℕ
listed_by None = 1
listed_by (Some Paused) = 0
listed_by (Some (Arrived n)) = 1
listed_by (Some Ended) = 0
listed_by (Some Full) = 0

-- of the query for which the search stood
pub record TurnedFor {L : Type 0} (q : Query L) (t : Tables L) (s s' : Numbers) (r : Option Standing) : Type 0 where
  pub stands : StandsFor q s' t.labels_after t.waiting_after
  pub says : TurnSays q s.listed s'.listed t.labels_after r

-- whatever it was shown
pub record Turned {L : Type 0} (rows : Rows) (m : Meaning L) (t : Tables L) (s s' : Numbers) (r : Option Standing) : Type 0 where
  pub count : s'.listed ≡ s.listed + listed_by r
  pub within : s'.listed ≤ s'.room
  pub keeps_its_query : KeepsItsQuery s s'
  pub earlier_untouched : take s.listed t.labels_after ≡ take s.listed t.labels
  pub later_untouched : drop s'.listed t.labels_after ≡ drop s'.listed t.labels
  pub still : s.waiting ≡ 0 → s'.waiting ≡ 0
  pub nothing_waits_once_ended : r ≡ Some Ended → s'.waiting ≡ 0
  pub for_its_query : (q : Query L) → q.rows ≡ rows → q.kind ≡ m → StandsFor q s t.labels t.waiting → TurnedFor q t s s' r

-- the label x is listed, and what its roads offer joins those that wait in h, which is k then
pub record Lists {L : Type 0} (rows : Rows) (m : Meaning L) (ls ls' : List (Label L)) (h k : Heap (Candidate L)) (s s' : Numbers) (x : Label L) (r : Option Standing) : Type 0 where
  pub keeps_its_query : KeepsItsQuery s s'
  pub count : s'.listed ≡ s.listed + 1
  pub counts_those_waiting : s'.waiting ≡ k.len
  pub labels : ls' ≡ slice_set ls s.listed x
  pub grown : GrownBy (offer rows m s.deadline x.arrival s.listed) 12 (waiting h) (waiting k)
  pub keeps_heap_order : InHeapOrder leaves_before h → InHeapOrder leaves_before k
  pub answer : r ≡ then_some (x.arrival.junction == s.goal) (Arrived s.listed)
