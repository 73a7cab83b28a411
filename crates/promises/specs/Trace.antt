-- What trace promises.
use Rattle.std.specs.Prelude.{◌≡◌, ℕ, ◌<◌, ◌≤◌, cond, not, List, length, take, drop, Some, None, Ok, Err, Option, Result, ◌==◌, nat_lt}
use Rattle.refusals.specs.declared.refusal.Refusal.{Refusal}
use Rattle.refusals.specs.declared.refusal.Refusal.TheVariants.{BufferTooShort, NotBegun, NotAsBegun, LabelNotListed}
use Rattle.front.specs.declared.label.Label.{Label}
use Rattle.front.specs.declared.leg.Leg.{Leg}
use Rattle.front.specs.Walks.{Query}
use Rattle.front.specs.Legs.{Stored}
use Rattle.front.specs.Labels.{Traces, TracedWalk}
use Rattle.promises.specs.declared.candidate.Candidate.{Candidate}
use Rattle.promises.specs.Numbers.{Numbers}
use Rattle.promises.specs.StandsFor.{StandsFor}

-- the first check that fails before the walk is looked at, shown a label table of this length
abbrev pub trace_check : Numbers → ℕ → ℕ → Option Refusal
trace_check s labels n =
    cond (not s.begun) (Some NotBegun)
    (cond (not (labels == s.room)) (Some NotAsBegun)
    (cond (not (nat_lt n s.listed)) (Some LabelNotListed) None))

-- the legs are those that the label's links trace; where the search stands for a query with this table, they are a drivable walk of it to the label
pub record LegsOf {L : Type 0} (s : Numbers) (ls : List (Label L)) (n : ℕ) (legs : List (Leg L)) : Type 0 where
  pub links_traced : (w : List (Leg L)) → Traces ls n w → legs ≡ w
  pub drivable_walk_to_the_label : (q : Query L) (ws : List (Candidate L)) → StandsFor q s ls ws → (x : Label L) × Stored ls n x × TracedWalk q ls n x legs

-- the walk was written: its legs first, and later records untouched
pub record TraceWritten {L : Type 0} (s : Numbers) (ls : List (Label L)) (n : ℕ) (walk walk' : List (Leg L)) (count : ℕ) : Type 0 where
  pub fits_the_buffer : count ≤ length walk
  pub same_length : length walk' ≡ length walk
  pub later_records_untouched : drop count walk' ≡ drop count walk
  pub legs_of_the_label : LegsOf s ls n (take count walk')

-- the buffer was too short: nothing is written, and the count told is that of the label's legs
pub record TraceTooShort {L : Type 0} (s : Numbers) (ls : List (Label L)) (n : ℕ) (walk walk' : List (Leg L)) (needed : ℕ) : Type 0 where
  pub too_short : length walk < needed
  pub nothing_written : walk' ≡ walk
  pub count_of_the_links : (w : List (Leg L)) → Traces ls n w → needed ≡ length w
  pub count_of_the_walk : (q : Query L) (ws : List (Candidate L)) → StandsFor q s ls ws → (w : List (Leg L)) × (x : Label L) × Stored ls n x × TracedWalk q ls n x w × (needed ≡ length w)

-- the answer to a trace whose first failing check is this
abbrev pub TraceAnswered : {L : Type 0} → Option Refusal → Numbers → List (Label L) → ℕ → List (Leg L) → List (Leg L) → Result ℕ Refusal → Type 0
TraceAnswered None s ls n walk walk' (Ok count) = TraceWritten s ls n walk walk' count
TraceAnswered None s ls n walk walk' (Err e) = (needed : ℕ) × (e ≡ BufferTooShort needed) × TraceTooShort s ls n walk walk' needed
TraceAnswered (Some f) s ls n walk walk' (Ok count) = ⊥
TraceAnswered (Some f) s ls n walk walk' (Err e) = (e ≡ f) × (walk' ≡ walk)

abbrev pub TracePromise : {L : Type 0} → ℕ → List (Label L) → List (Leg L) → List (Leg L) → Numbers → Result ℕ Refusal → Type 0
TracePromise n ls walk walk' s r = TraceAnswered (trace_check s (length ls) n) s ls n walk walk' r
