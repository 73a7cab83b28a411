-- The law: what an office may conclude after any run of calls.
use Rattle.std.specs.Prelude.{◌≡◌, ℕ, ◌<◌, ◌≤◌, Bool, true, false, ◌⊎◌, ◌↔◌, List, [], ◌∷◌, length, take, Ok, Err, Result, ◌≢◌}
use Rattle.refusals.specs.declared.refusal.Refusal.{Refusal}
use Rattle.maps.specs.Rows.{Rows}
use Rattle.loads.specs.Meaning.{Meaning}
use Rattle.front.specs.declared.arrival.Arrival.{Arrival}
use Rattle.front.specs.declared.label.Label.{Label}
use Rattle.front.specs.declared.leg.Leg.{Leg}
use Rattle.front.specs.Walks.{Query, Reached}
use Rattle.front.specs.Front.{Unbeaten}
use Rattle.front.specs.Legs.{Stored}
use Rattle.front.specs.Labels.{TracedWalk}
use Rattle.promises.specs.declared.candidate.Candidate.{Candidate}
use Rattle.promises.specs.declared.standing.Progress.{Progress}
use Rattle.promises.specs.declared.standing.Standing.{Standing}
use Rattle.promises.specs.declared.standing.Standing.TheVariants.{Paused, Arrived, Ended, Full}
use Rattle.promises.specs.Numbers.{Numbers, Tables}
use Rattle.promises.specs.Advance.{EveryUnbeatenListed, SomeUnbeatenUnlisted}
use Rattle.promises.specs.Chart.{Charting}
use Rattle.promises.specs.Runs.{Call, History, Run}
use Rattle.promises.specs.Runs.Call.{begin, advance, trace, chart, with_other_loads}

-- what there is since the last accepted begin: its tables as they were left last, the labels announced (the newest first), and whether an advance said ended
pub record State (L : Type 0) : Type 0 where
  pub labels : List (Label L)
  pub waiting : List (Candidate L)
  pub announced : List ℕ
  pub ended : Bool

abbrev pub announced_with : Standing → List ℕ → List ℕ
announced_with Paused ns = ns
announced_with (Arrived n) ns = n ∷ ns
announced_with Ended ns = ns
announced_with Full ns = ns

abbrev pub ended_with : Standing → Bool → Bool
ended_with Paused b = b
ended_with (Arrived n) b = b
ended_with Ended b = true
ended_with Full b = b

-- what a begin or an advance leaves that answered this standing
abbrev pub left_by : {L : Type 0} → Tables L → Standing → List ℕ → Bool → State L
left_by t answer ns b = record { labels = t.labels_after; waiting = t.waiting_after; announced = announced_with answer ns; ended = ended_with answer b }

-- the last accepted begin of h was of q, every advance accepted since was shown its map, its kind and its tables, and so there is this state.
-- Maps and kinds are the same when their meanings are. Traces, charts and refused calls may have been shown anything.
pub data Since {L : Type 0} (q : Query L) : State L → History L → Type 0 where
  begun : (h : History L) (t : Tables L) (answer : Standing) → Since q (left_by t answer [] false) (begin q t (Ok answer) ∷ h)
  advanced : (h : History L) (o : State L) (rows : Rows) (m : Meaning L) (budget : ℕ) (t : Tables L) (p : Progress) → Since q o h
      → rows ≡ q.rows → m ≡ q.kind → t.labels ≡ o.labels → t.waiting ≡ o.waiting
      → Since q (left_by t p.standing o.announced o.ended) (advance rows m budget t (Ok p) ∷ h)
  traced : (h : History L) (o : State L) (n : ℕ) (ls : List (Label L)) (walk walk' : List (Leg L)) (r : Result ℕ Refusal) → Since q o h → Since q o (trace n ls walk walk' r ∷ h)
  charted : (h : History L) (o : State L) (c : Charting) → Since q o h → Since q o (chart c ∷ h)
  begin_refused : (h : History L) (o : State L) (q' : Query L) (t : Tables L) (e : Refusal) → Since q o h → Since q o (begin q' t (Err e) ∷ h)
  advance_refused : (h : History L) (o : State L) (rows : Rows) (m : Meaning L) (budget : ℕ) (t : Tables L) (e : Refusal) → Since q o h → Since q o (advance rows m budget t (Err e) ∷ h)
  left_by_other_loads : (h : History L) (o : State L) → Since q o h → Since q o (with_other_loads true ∷ h)

abbrev pub Among : List ℕ → ℕ → Type 0
Among [] n = ⊥
Among (m ∷ ns) n = (m ≡ n) ⊎ Among ns n

-- the first announced is the last of the list
abbrev pub FirstOf : List ℕ → ℕ → Type 0
FirstOf [] n = ⊥
FirstOf (m ∷ []) n = m ≡ n
FirstOf (m ∷ (k ∷ ns)) n = FirstOf (k ∷ ns) n

-- no drivable walk to the goal takes less time
abbrev pub NoneFaster : {L : Type 0} → Query L → ℕ → Type 0
NoneFaster {L} q seconds = (a : Arrival L) → Reached q a → a.junction ≡ q.goal → seconds ≤ a.time

-- an announced label is listed, at the goal, and no drivable walk beats its arrival; no drivable walk to the goal is faster than the first announced
pub record Announced {L : Type 0} (q : Query L) (ls : List (Label L)) (ns : List ℕ) (n : ℕ) : Type 0 where
  pub label : Label L
  pub label_n : Stored ls n label
  pub at_the_goal : label.arrival.junction ≡ q.goal
  pub unbeaten : Unbeaten q label.arrival
  pub first_is_the_fastest : FirstOf ns n → NoneFaster q label.arrival.time

-- the trace of an announced label is a drivable walk to the goal that no drivable walk beats, and each beginning of it arrives at a listed label
pub record AnnouncedTrace {L : Type 0} (q : Query L) (ls : List (Label L)) (ns : List ℕ) (n : ℕ) (legs : List (Leg L)) : Type 0 where
  pub announced : Announced q ls ns n
  pub drivable_walk_to_it : TracedWalk q ls n announced.label legs

-- every unbeaten arrival at the goal is the arrival of an announced label
abbrev pub AllAtTheGoalAnnounced : {L : Type 0} → Query L → List (Label L) → List ℕ → Type 0
AllAtTheGoalAnnounced {L} q ls ns = (a : Arrival L) → Unbeaten q a → a.junction ≡ q.goal → (n : ℕ) × (x : Label L) × Among ns n × Stored ls n x × (x.arrival ≡ a)

-- an accepted advance with budget left and no arrival says ended or full, each exactly when it is so
pub record EndedOrFull {L : Type 0} (q : Query L) (ls : List (Label L)) (answer : Standing) (listed : ℕ) : Type 0 where
  pub ended_exactly_when_every_unbeaten_is_listed : (answer ≡ Ended) ↔ EveryUnbeatenListed q ls listed
  pub full_exactly_when_all_are_used_and_some_unbeaten_is_unlisted : (answer ≡ Full) ↔ ((listed ≡ length ls) × SomeUnbeatenUnlisted q ls listed)

abbrev pub NoArrival : Standing → Type 0
NoArrival answer = (n : ℕ) → answer ≢ Arrived n

-- what is known of the newest call, where Told says what is known of a chart
abbrev pub KnownOf : {L : Type 0} → (Query L → State L → Charting → Type 0) → Query L → State L → Call L → Type 0
KnownOf Told q o (begin q' t r) = Unit {0}
KnownOf Told q o (advance rows m budget t (Err e)) = Unit {0}
KnownOf Told q o (advance rows m budget t (Ok p)) = p.listed_now < budget → NoArrival p.standing → EndedOrFull q o.labels p.standing p.listed_in_all
KnownOf Told q o (trace n ls walk walk' (Err e)) = Unit {0}
KnownOf Told q o (trace n ls walk walk' (Ok count)) = ls ≡ o.labels → Among o.announced n → AnnouncedTrace q o.labels o.announced n (take count walk')
KnownOf Told q o (chart c) = Told q o c
KnownOf Told q o (with_other_loads b) = Unit {0}

-- what is known after every call
pub record KnownAfter {L : Type 0} (q : Query L) (o : State L) : Type 0 where
  pub each_announced : (n : ℕ) → Among o.announced n → Announced q o.labels o.announced n
  pub all_announced_once_ended : o.ended ≡ true → AllAtTheGoalAnnounced q o.labels o.announced

-- after each call of the history, for the query of the last accepted begin
abbrev pub Keeps : {L : Type 0} → (Query L → State L → Charting → Type 0) → History L → Type 0
Keeps Told [] = Unit {0}
Keeps {L} Told (c ∷ h) = ((q : Query L) (o : State L) → Since q o (c ∷ h) → KnownAfter q o × KnownOf Told q o c) × Keeps Told h

-- each run that left the numbers s keeps the law once the call c follows it
abbrev pub EveryRunKeeps : {L : Type 0} → (Query L → State L → Charting → Type 0) → Numbers → Call L → Type 0
EveryRunKeeps {L} Told s c = (h : History L) → Run h s → Keeps Told (c ∷ h)

abbrev pub NothingToldOfCharts : {L : Type 0} → Query L → State L → Charting → Type 0
NothingToldOfCharts q o c = Unit {0}

-- every run keeps the law, whatever the type of its loads; ChartLaw has what charts tell where they are profiles
abbrev pub Law : Type 0 → Type 0
Law L = (h : History L) (s : Numbers) → Run h s → Keeps NothingToldOfCharts h
