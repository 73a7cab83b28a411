-- Whole runs: any calls of one search, in any order, accepted or refused, on any maps, kinds and tables.
use Rattle.std.specs.Prelude.{◌≡◌, ℕ, Bool, true, false, List, [], ◌∷◌, Result}
use Rattle.refusals.specs.declared.refusal.Refusal.{Refusal}
use Rattle.maps.specs.Rows.{Rows}
use Rattle.loads.specs.Meaning.{Meaning}
use Rattle.front.specs.declared.label.Label.{Label}
use Rattle.front.specs.declared.leg.Leg.{Leg}
use Rattle.front.specs.Walks.{Query}
use Rattle.promises.specs.declared.standing.Progress.{Progress}
use Rattle.promises.specs.declared.standing.Standing.{Standing}
use Rattle.promises.specs.Numbers.{Numbers, Tables}
use Rattle.promises.specs.Begin.{BeginPromise}
use Rattle.promises.specs.Advance.{AdvancePromise}
use Rattle.promises.specs.Trace.{TracePromise}
use Rattle.promises.specs.Chart.{Charting, ChartPromise}

-- one call with what it was shown, what it answered and what it left in its tables
pub data Call (L : Type 0) : Type 0 where
  begin : Query L → Tables L → Result Standing Refusal → Call L
  advance : Rows → Meaning L → ℕ → Tables L → Result Progress Refusal → Call L
  trace : ℕ → List (Label L) → List (Leg L) → List (Leg L) → Result ℕ Refusal → Call L
  chart : Charting → Call L
  -- a begin, an advance or a trace with loads of another type; true where it left the search as it was: a refused one, and every trace
  with_other_loads : Bool → Call L

-- the newest call first
abbrev pub History : Type 0 → Type 0
History L = List (Call L)

-- what a call promises of the search's numbers before and after it
abbrev pub Promise : {L : Type 0} → Call L → Numbers → Numbers → Type 0
Promise (begin q t r) s s' = BeginPromise q t s s' r
Promise (advance rows m budget t r) s s' = AdvancePromise rows m budget t s s' r
Promise (trace n ls walk walk' r) s s' = TracePromise n ls walk walk' s r × (s' ≡ s)
Promise (chart c) s s' = ChartPromise c s × (s' ≡ s)
Promise (with_other_loads unchanged) s s' = unchanged ≡ true → s' ≡ s

-- the calls of h, from a new search on, each as it promises, leave the numbers s
pub data Run {L : Type 0} : History L → Numbers → Type 0 where
  no_call_yet : (s : Numbers) → s.begun ≡ false → Run [] s
  one_call_more : (h : History L) (c : Call L) (s s' : Numbers) → Run h s → Promise c s s' → Run (c ∷ h) s'
