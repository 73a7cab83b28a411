-- A chart that does what it promises tells the least times.
use Rattle.std.proofs.Common.{◌≡◌, ℕ, ◌<◌, ◌≤◌, Bool, true, false, cond, not, eqb, List, [], ◌∷◌, length, get_or, take, drop, Some, None, Ok, Err, Result, sym, refl, ap, ◌∙◌, subst, true≢false, arith}
use Rattle.std.proofs.lemmas.List.{take_at}
use Rattle.std.proofs.lemmas.Bool.{eqb-true, and_parts}
use Rattle.refusals.specs.declared.refusal.Refusal.{Refusal}
use Rattle.refusals.specs.declared.refusal.Refusal.TheVariants.{NotBegun, NotAsBegun, NotPlainProfile}
use Rattle.loads.specs.declared.profile.Profile.{Profile}
use Rattle.loads.specs.Profile.{profiles, plain}
use Rattle.front.specs.declared.arrival.Arrival.{Arrival}
use Rattle.front.specs.declared.label.Label.{Label}
use Rattle.front.specs.Walks.{Query}
use Rattle.front.specs.Invariant.{Invariant}
use Rattle.charts.specs.declared.row.Row.{Row}
use Rattle.charts.specs.Trips.{profile_query}
use Rattle.charts.specs.Chart.{chart, RowsTellLeastTimes, NoWalkWithoutARow}
use Rattle.charts.specs.Theorems.{ChartTheorems}
use Rattle.charts.proofs.Theorems.{theorems}
use Rattle.promises.specs.Numbers.{Numbers}
use Rattle.promises.specs.StandsFor.{labels_of}
use Rattle.promises.specs.Chart.{Charting, is_plain, begins_plain, chart_check, ChartAnswered, ChartPromise}
use Rattle.promises.specs.Runs.{Call, Promise}
use Rattle.promises.specs.Runs.Run.{one_call_more}
use Rattle.promises.specs.Law.{State, EveryRunKeeps}
use Rattle.promises.specs.ChartLaw.{trip_of, RowsTold, ToldByCharts, ProfileLaw}
use Rattle.promises.proofs.ListedLabels.{label_0_is_the_departure}
use Rattle.promises.proofs.Accounts.{Accounted}
use Rattle.promises.proofs.LawKept.{every_run_keeps}

equal_parts_equal_profiles : (f g : Profile) → f.need ≡ g.need → f.low ≡ g.low → f.high ≡ g.high → f ≡ g
equal_parts_equal_profiles f g a b c = λ i. record { need = a i; low = b i; high = c i }

is_the_plain : (capacity : ℕ) (f : Profile) → is_plain capacity f ≡ true → f ≡ plain capacity
is_the_plain capacity f e =
    let p = and_parts (eqb f.need 0) _ e in
    let r = and_parts (eqb f.low 0) _ p.1 in
    equal_parts_equal_profiles f (plain capacity) (eqb-true f.need 0 p.0) (eqb-true f.low 0 r.0) (eqb-true f.high capacity r.1)

begins_with_the_plain : (capacity : ℕ) (ls : List (Label Profile)) → begins_plain capacity ls ≡ true → (x : Label Profile) × (0 < length ls) × ((d : Label Profile) → get_or ls 0 d ≡ x) × (x.arrival.load ≡ plain capacity)
begins_with_the_plain capacity [] e = absurd (true≢false (sym e))
begins_with_the_plain capacity (x ∷ xs) e = (x, omega arith, (λ d. refl), is_the_plain capacity x.arrival.load e)

-- an accepted chart passed its checks
passed_its_checks : (s : Numbers) (capacity : ℕ) (ls : List (Label Profile)) (new rows rows' : List Row) (count : ℕ) → ChartAnswered (chart_check s capacity ls) new rows rows' (Ok count) → (begins_plain capacity ls ≡ true) × (take count rows' ≡ new)
passed_its_checks s capacity ls new rows rows' count r = go s.begun (eqb (length ls) s.room) (begins_plain capacity ls) refl r
  where
    go : (x y z : Bool) → begins_plain capacity ls ≡ z → ChartAnswered (cond (not x) (Some NotBegun) (cond (not y) (Some NotAsBegun) (cond (not z) (Some NotPlainProfile) None))) new rows rows' (Ok count) → (begins_plain capacity ls ≡ true) × (take count rows' ≡ new)
    go true true true e (p, le, w) = (e, ap (take count) w ∙ take_at new (drop (length new) rows) count (sym p))
    go true true false e r = absurd r
    go true false z e r = absurd r
    go false y z e r = absurd r

same_query : (q : Query Profile) (capacity : ℕ) → profiles capacity ≡ q.kind → q.load ≡ plain capacity → q ≡ profile_query (trip_of q capacity)
same_query q capacity ek el = λ i. record { rows = q.rows; kind = sym ek i; start = q.start; load = el i; goal = q.goal; deadline = q.deadline }

rows_told : (q : Query Profile) (s : Numbers) (o : State Profile) (c : Charting) (count : ℕ) → Accounted q s o → 1 ≤ c.capacity → c.capacity ≤ 100000 → profiles c.capacity ≡ q.kind → c.labels ≡ o.labels
    → ChartAnswered (chart_check s c.capacity c.labels) (chart s.goal (take s.listed c.labels)) c.rows c.rows_after (Ok count)
    → RowsTellLeastTimes (trip_of q c.capacity) (take count c.rows_after) × (o.ended ≡ true → NoWalkWithoutARow (trip_of q c.capacity) (take count c.rows_after))
rows_told q s o c count g lo hi ek es r = (
  subst (λ (rs : List Row). RowsTellLeastTimes (trip_of q c.capacity) rs) (sym rows_are) (of_the_trip.rows_tell_least_times (take s.listed o.labels) (labels_of (take s.waiting o.waiting)) invariant),
  λ e. subst (λ (rs : List Row). NoWalkWithoutARow (trip_of q c.capacity) rs) (sym rows_are) (of_the_trip.nothing_waits_so_no_walk_without_a_row (take s.listed o.labels) (subst (λ (m : ℕ). Invariant (profile_query (trip_of q c.capacity)) (take s.listed o.labels) (labels_of (take m o.waiting))) (g.ended_means_nothing_waits e) invariant)),
)
  where
    of_the_trip : ChartTheorems (trip_of q c.capacity)
    of_the_trip = theorems.charts (trip_of q c.capacity) (record { sound = g.stands.valid.sound; capacity_at_least_1 = lo; capacity_at_most_100000 = hi })

    passed : (begins_plain c.capacity c.labels ≡ true) × (take count c.rows_after ≡ chart s.goal (take s.listed c.labels))
    passed = passed_its_checks s c.capacity c.labels (chart s.goal (take s.listed c.labels)) c.rows c.rows_after count r

    rows_are : take count c.rows_after ≡ chart q.goal (take s.listed o.labels)
    rows_are = passed.1 ∙ (ap (λ (v : List (Label Profile)). chart s.goal (take s.listed v)) es ∙ ap (λ (v : ℕ). chart v (take s.listed o.labels)) g.stands.goal)

    load_is : q.load ≡ plain c.capacity
    load_is =
        let (x, h, e, p) = begins_with_the_plain c.capacity c.labels passed.0 in
        let st = label_0_is_the_departure q s o.labels o.waiting g.stands x (subst (λ (v : List (Label Profile)). 0 < length v) es h, λ d. ap (λ (v : List (Label Profile)). get_or v 0 d) (sym es) ∙ e d) in
        sym (ap (λ (a : Arrival Profile). a.load) st) ∙ p

    invariant : Invariant (profile_query (trip_of q c.capacity)) (take s.listed o.labels) (labels_of (take s.waiting o.waiting))
    invariant = subst (λ (x : Query Profile). Invariant x (take s.listed o.labels) (labels_of (take s.waiting o.waiting))) (same_query q c.capacity ek load_is) g.stands.invariant

told_by_charts : (q : Query Profile) (s : Numbers) (o : State Profile) (c : Charting) → Accounted q s o → ChartPromise c s → ToldByCharts q o c
told_by_charts q s o c g (lo, hi, p) = go c.answer p
  where
    go : (r : Result ℕ Refusal) → ChartAnswered (chart_check s c.capacity c.labels) (chart s.goal (take s.listed c.labels)) c.rows c.rows_after r → RowsTold q o c r
    go (Ok count) p = λ ek es. rows_told q s o c count g lo hi ek es p
    go (Err e) p = tt

pub profile_law : ProfileLaw
profile_law = every_run_keeps ToldByCharts told_by_charts

pub one_call_keeps_with_charts : (c : Call Profile) (s s' : Numbers) → Promise c s s' → EveryRunKeeps ToldByCharts s c
one_call_keeps_with_charts c s s' promise h run = profile_law (c ∷ h) s' (one_call_more h c s s' run promise)
