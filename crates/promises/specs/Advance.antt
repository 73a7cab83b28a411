-- What advance promises.
use Rattle.std.specs.Prelude.{◌≡◌, ℕ, ◌+◌, ◌<◌, ◌≤◌, cond, not, ◌&&◌, ◌||◌, List, length, take, drop, Some, None, Option, Result, ◌==◌, ◌≢◌, nat_lt}
use Rattle.std.specs.List.{ContainsAt as Has}
use Rattle.refusals.specs.declared.refusal.Refusal.{Refusal}
use Rattle.refusals.specs.declared.refusal.Refusal.TheVariants.{BudgetOutOfRange, NotBegun, NotAsBegun}
use Rattle.maps.specs.Rows.{Rows}
use Rattle.loads.specs.Meaning.{Meaning}
use Rattle.front.specs.declared.arrival.Arrival.{Arrival}
use Rattle.front.specs.declared.label.Label.{Label}
use Rattle.front.specs.Walks.{Query}
use Rattle.front.specs.Front.{Unbeaten, FrontBegins}
use Rattle.front.specs.Legs.{Stored}
use Rattle.front.specs.Labels.{arrivals}
use Rattle.promises.specs.declared.standing.Progress.{Progress}
use Rattle.promises.specs.declared.standing.Standing.{Standing}
use Rattle.promises.specs.declared.standing.Standing.TheVariants.{Paused, Arrived, Ended, Full}
use Rattle.promises.specs.Numbers.{Numbers, KeepsItsQuery, Tables, AllUnchanged}
use Rattle.promises.specs.StandsFor.{StandsFor}
use Rattle.promises.specs.Refuses.{Refuses}

-- the first check that fails, shown a map of n junctions and tables of these lengths
abbrev pub advance_check : Numbers → ℕ → ℕ → ℕ → ℕ → Option Refusal
advance_check s n labels waiting budget =
    cond (not s.begun) (Some NotBegun)
    (cond (not (n == s.junctions && (labels == s.room && waiting == s.width))) (Some NotAsBegun)
    (cond (budget == 0 || nat_lt 65535 budget) (Some BudgetOutOfRange) None))

-- a is the arrival of one of the first n labels
abbrev pub Listed : {L : Type 0} → List (Label L) → ℕ → Arrival L → Type 0
Listed ls n a = Has (arrivals (take n ls)) a

abbrev pub EveryUnbeatenListed : {L : Type 0} → Query L → List (Label L) → ℕ → Type 0
EveryUnbeatenListed {L} q ls n = (a : Arrival L) → Unbeaten q a → Listed ls n a

abbrev pub SomeUnbeatenUnlisted : {L : Type 0} → Query L → List (Label L) → ℕ → Type 0
SomeUnbeatenUnlisted {L} q ls n = (a : Arrival L) × Unbeaten q a × (Listed ls n a → ⊥)

-- none of the labels from number a up to below b is at the junction
abbrev pub NoneAt : {L : Type 0} → List (Label L) → ℕ → ℕ → ℕ → Type 0
NoneAt {L} ls a b junction = (i : ℕ) (x : Label L) → a ≤ i → i < b → Stored ls i x → x.arrival.junction ≢ junction

-- label number n is at the junction
abbrev pub LabelAt : {L : Type 0} → List (Label L) → ℕ → ℕ → Type 0
LabelAt {L} ls n junction = (x : Label L) → Stored ls n x → x.arrival.junction ≡ junction

-- what its standing says of an advance with this budget that listed the labels from number a up to below b
abbrev pub StandingSays : {L : Type 0} → Query L → ℕ → List (Label L) → ℕ → ℕ → Standing → Type 0
StandingSays q budget ls a b Paused = (b ≡ a + budget) × NoneAt ls a b q.goal
StandingSays q budget ls a b (Arrived n) = (a ≤ n) × (b ≡ n + 1) × NoneAt ls a n q.goal × LabelAt ls n q.goal
StandingSays q budget ls a b Ended = (b < a + budget) × NoneAt ls a b q.goal × EveryUnbeatenListed q ls b
StandingSays q budget ls a b Full = (b < a + budget) × NoneAt ls a b q.goal × (b ≡ length ls) × SomeUnbeatenUnlisted q ls b

-- an accepted advance, of the query for which the search stood
pub record AdvancedFor {L : Type 0} (q : Query L) (budget : ℕ) (t : Tables L) (s s' : Numbers) (p : Progress) : Type 0 where
  pub listed_labels_begin_the_front : FrontBegins q (arrivals (take p.listed_in_all t.labels_after))
  pub standing_says : StandingSays q budget t.labels_after s.listed s'.listed p.standing
  pub stands : StandsFor q s' t.labels_after t.waiting_after

-- an accepted advance, whatever it was shown
pub record Advanced {L : Type 0} (rows : Rows) (m : Meaning L) (budget : ℕ) (t : Tables L) (s s' : Numbers) (p : Progress) : Type 0 where
  pub counts_all_listed : p.listed_in_all ≡ s'.listed
  pub counts_those_listed_now : s'.listed ≡ s.listed + p.listed_now
  pub lists_within_the_budget : p.listed_now ≤ budget
  pub lists_within_the_table : s'.listed ≤ length t.labels_after
  pub labels_keep_their_length : length t.labels_after ≡ length t.labels
  pub waiting_keeps_its_length : length t.waiting_after ≡ length t.waiting
  pub earlier_labels_untouched : take s.listed t.labels_after ≡ take s.listed t.labels
  pub later_labels_untouched : drop s'.listed t.labels_after ≡ drop s'.listed t.labels
  pub keeps_its_query : KeepsItsQuery s s'
  pub nothing_comes_to_wait_once_nothing_waits : s.waiting ≡ 0 → s'.waiting ≡ 0
  pub nothing_waits_once_ended : p.standing ≡ Ended → s'.waiting ≡ 0
  pub for_its_query : (q : Query L) → q.rows ≡ rows → q.kind ≡ m → StandsFor q s t.labels t.waiting → AdvancedFor q budget t s s' p

abbrev pub AdvancePromise : {L : Type 0} → Rows → Meaning L → ℕ → Tables L → Numbers → Numbers → Result Progress Refusal → Type 0
AdvancePromise rows m budget t s s' r =
    Refuses (advance_check s (length rows) (length t.labels) (length t.waiting) budget)
    r (AllUnchanged t s s') (Advanced rows m budget t s s')
