-- Calls that do what they promise keep the law.
use Rattle.std.proofs.Common.{◌≡◌, ℕ, ◌<◌, ◌≤◌, List, ◌++◌, length, take, drop, None, Ok, Err, Result, sym, refl, ap, ◌∙◌, subst, arith}
use Rattle.std.proofs.lemmas.List.{take_at}
use Rattle.refusals.specs.declared.refusal.Refusal.{Refusal}
use Rattle.refusals.specs.declared.refusal.Refusal.TheVariants.{BufferTooShort}
use Rattle.maps.specs.Rows.{Rows}
use Rattle.loads.specs.Meaning.{Meaning}
use Rattle.front.specs.declared.label.Label.{Label}
use Rattle.front.specs.declared.leg.Leg.{Leg}
use Rattle.front.specs.Walks.{Query}
use Rattle.front.specs.Legs.{Stored}
use Rattle.front.specs.Labels.{Traces, TracedWalk}
use Rattle.promises.specs.declared.candidate.Candidate.{Candidate}
use Rattle.promises.specs.declared.standing.Progress.{Progress}
use Rattle.promises.specs.declared.standing.Standing.{Standing}
use Rattle.promises.specs.Numbers.{Numbers, Tables, AllUnchanged}
use Rattle.promises.specs.StandsFor.{StandsFor}
use Rattle.promises.specs.Refuses.{Refuses}
use Rattle.promises.specs.Begin.{BeginPromise}
use Rattle.promises.specs.Advance.{AdvancePromise, Advanced, advance_check}
use Rattle.promises.specs.Trace.{TracePromise, TraceAnswered, trace_check}
use Rattle.promises.specs.Chart.{Charting, ChartPromise}
use Rattle.promises.specs.Runs.Call.{begin, advance, trace}
use Rattle.promises.specs.Runs.Call.{chart as chart_call}
use Rattle.promises.specs.Law.{EveryRunKeeps, NothingToldOfCharts}
use Rattle.promises.specs.ChartLaw.{ToldByCharts}
use Rattle.promises.proofs.Records.{stored_some}
use Rattle.promises.proofs.ListedLabels.{listed_has_a_traced_walk}
use Rattle.promises.proofs.LawKept.{one_call_keeps}
use Rattle.promises.proofs.ChartsTold.{one_call_keeps_with_charts}

pub begin_keeps : {L : Type 0} (q : Query L) (t : Tables L) (s s' : Numbers) (r : Result Standing Refusal) → BeginPromise q t s s' r →
    record { promised : BeginPromise q t s s' r; every_run_with_this_call_keeps_the_law : EveryRunKeeps NothingToldOfCharts s (begin q t r) }
begin_keeps q t s s' r p = record { promised = p; every_run_with_this_call_keeps_the_law = one_call_keeps (begin q t r) s s' p }

pub advance_keeps : {L : Type 0} (rows : Rows) (m : Meaning L) (budget : ℕ) (t : Tables L) (s s' : Numbers) (r : Result Progress Refusal) → AdvancePromise rows m budget t s s' r →
    record { promised : AdvancePromise rows m budget t s s' r; every_run_with_this_call_keeps_the_law : EveryRunKeeps NothingToldOfCharts s (advance rows m budget t r) }
advance_keeps rows m budget t s s' r p = record { promised = p; every_run_with_this_call_keeps_the_law = one_call_keeps (advance rows m budget t r) s s' p }

-- an accepted advance of a search with the numbers s₀, which are s
pub advance_accepts : {L : Type 0} (rows : Rows) (m : Meaning L) (n budget : ℕ) (t : Tables L) (s s₀ s' : Numbers) (p : Progress) → s₀ ≡ s → n ≡ length rows → None ≡ advance_check s n (length t.labels) (length t.waiting) budget → Advanced rows m budget t s s' p → AdvancePromise rows m budget t s₀ s' (Ok p)
advance_accepts rows m n budget t s s₀ s' p es en e x =
    subst (λ k. AdvancePromise rows m budget t k s' (Ok p)) (sym es) (subst (λ o. Refuses o (Ok p) (AllUnchanged t s s') (Advanced rows m budget t s s')) (e ∙ ap (λ k. advance_check s k (length t.labels) (length t.waiting) budget) en) x)

-- trace
pub trace_keeps : {L : Type 0} (n : ℕ) (ls : List (Label L)) (walk walk' : List (Leg L)) (s : Numbers) (r : Result ℕ Refusal) → TracePromise n ls walk walk' s r →
    record { promised : TracePromise n ls walk walk' s r; every_run_with_this_call_keeps_the_law : EveryRunKeeps NothingToldOfCharts s (trace n ls walk walk' r) }
trace_keeps n ls walk walk' s r p = record { promised = p; every_run_with_this_call_keeps_the_law = one_call_keeps (trace n ls walk walk' r) s s (p, refl) }

-- what the links trace is the walk of the label
module _ {L : Type 0} (n : ℕ) (ls : List (Label L)) (walk : List (Leg L)) (s : Numbers) (count : ℕ) (passed : trace_check s (length ls) n ≡ None) (inside : n < s.listed) (counted : (w : List (Leg L)) → Traces ls n w → count ≡ length w) where
  walk_of : (q : Query L) (ws : List (Candidate L)) → StandsFor q s ls ws → (w : List (Leg L)) × (x : Label L) × Stored ls n x × Traces ls n w × TracedWalk q ls n x w
  walk_of q ws st =
      let (x, p) = stored_some ls n (omega (arith, inside, st.listed_within_the_table)) in
      let (w, t, d) = listed_has_a_traced_walk q s ls ws st n x inside p in
      (w, x, p, t, d)

  pub trace_too_short : length walk < count → TracePromise n ls walk walk s (Err (BufferTooShort count))
  trace_too_short short = subst (λ o. TraceAnswered o s ls n walk walk (Err (BufferTooShort count))) (sym passed) (
    count,
    refl,
    record {
      too_short = short;
      nothing_written = refl;
      count_of_the_links = counted;
      count_of_the_walk = λ q ws st. let (w, x, p, t, d) = walk_of q ws st in (w, x, p, d, counted w t);
    },
  )

  pub trace_written : (walk' : List (Leg L)) → count ≤ length walk → length walk' ≡ length walk → drop count walk' ≡ drop count walk
      → ((w : List (Leg L)) → Traces ls n w → count ≡ length w → walk' ≡ w ++ drop (length w) walk) → TracePromise n ls walk walk' s (Ok count)
  trace_written walk' fits long later legs = subst (λ o. TraceAnswered o s ls n walk walk' (Ok count)) (sym passed) (record {
    fits_the_buffer = fits;
    same_length = long;
    later_records_untouched = later;
    legs_of_the_label = record {
      links_traced = traced;
      drivable_walk_to_the_label = λ q ws st. let (w, x, p, t, d) = walk_of q ws st in (x, p, subst (λ (v : List (Leg L)). TracedWalk q ls n x v) (sym (traced w t)) d);
    };
  })
    where
      traced : (w : List (Leg L)) → Traces ls n w → take count walk' ≡ w
      traced w t = let e = counted w t in ap (take count) (legs w t e) ∙ take_at w (drop (length w) walk) count (sym e)

-- chart
pub chart_keeps : (c : Charting) (s : Numbers) → ChartPromise c s → record { promised : ChartPromise c s; every_run_with_this_call_keeps_the_law : EveryRunKeeps ToldByCharts s (chart_call c) }
chart_keeps c s p = record { promised = p; every_run_with_this_call_keeps_the_law = one_call_keeps_with_charts (chart_call c) s s (p, refl) }
