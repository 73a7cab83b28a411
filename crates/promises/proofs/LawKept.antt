-- Every run keeps the law.
use Rattle.std.proofs.Common.{◌≡◌, ℕ, ◌+◌, ◌<◌, List, ◌∷◌, length, take, Some, None, Ok, Err, Option, sym, refl, ap, ◌∙◌, subst, arith}
use Rattle.std.specs.List.{ContainsAt as Has}
use Rattle.refusals.specs.declared.refusal.Refusal.{Refusal}
use Rattle.front.specs.declared.arrival.Arrival.{Arrival}
use Rattle.front.specs.declared.label.Label.{Label}
use Rattle.front.specs.declared.leg.Leg.{Leg}
use Rattle.front.specs.Walks.{Query}
use Rattle.front.specs.Legs.{Stored}
use Rattle.front.specs.Labels.{TracedWalk}
use Rattle.front.proofs.Labels.{arrival_has_a_label}
use Rattle.front.proofs.ListedLabels.{nothing_waits_so_the_front_is_listed}
use Rattle.promises.specs.declared.candidate.Candidate.{Candidate}
use Rattle.promises.specs.declared.standing.Standing.{Standing}
use Rattle.promises.specs.declared.standing.Standing.TheVariants.{Paused, Arrived, Ended, Full}
use Rattle.promises.specs.Numbers.{Numbers}
use Rattle.promises.specs.StandsFor.{StandsFor, labels_of}
use Rattle.promises.specs.Advance.{StandingSays, EveryUnbeatenListed}
use Rattle.promises.specs.Trace.{trace_check, TraceAnswered, TracePromise, TraceWritten}
use Rattle.promises.specs.Chart.{Charting, ChartPromise}
use Rattle.promises.specs.Runs.{Call, History, Promise, Run}
use Rattle.promises.specs.Runs.Run.{no_call_yet, one_call_more}
use Rattle.promises.specs.Law.{State, Since, Among, Announced, AnnouncedTrace, AllAtTheGoalAnnounced, EndedOrFull, NoArrival, KnownOf, KnownAfter, Keeps, EveryRunKeeps}
use Rattle.promises.specs.Law.Since.{begun, advanced, traced, charted, begin_refused, advance_refused, left_by_other_loads}
use Rattle.promises.proofs.Records.{take_stored, below_take, stored_some}
use Rattle.promises.proofs.ListedLabels.{listed_is_unbeaten, first_at_the_goal_is_the_fastest}
use Rattle.front.specs.Invariant.{Invariant}
use Rattle.promises.specs.Law.{Law, NothingToldOfCharts}
use Rattle.promises.proofs.Accounts.{Accounted, accounted, advance_accepted, stands_shown}

-- every announced label is at the goal and unbeaten, and the first is the fastest
pub each_is_announced : {L : Type 0} (q : Query L) (s : Numbers) (o : State L) → Accounted q s o → (n : ℕ) → Among o.announced n → Announced q o.labels o.announced n
each_is_announced q s o g n a =
    let (lt, goal) = g.announced_is_at_the_goal n a in
    let (x, p) = stored_some o.labels n (omega (arith, lt, g.stands.listed_within_the_table)) in
    record { label = x; label_n = p; at_the_goal = goal x p; unbeaten = listed_is_unbeaten q s o.labels o.waiting g.stands n x lt p; first_is_the_fastest = λ f. first_at_the_goal_is_the_fastest q s o.labels o.waiting g.stands n x lt p (goal x p) (g.first_announced_is_the_first_there n f) }

-- once every unbeaten arrival is listed, those at the goal are announced
all_announced : {L : Type 0} (q : Query L) (s : Numbers) (o : State L) → Accounted q s o → EveryUnbeatenListed q o.labels s.listed → AllAtTheGoalAnnounced q o.labels o.announced
all_announced {L} q s o g all a unbeaten goal = number (arrival_has_a_label (take s.listed o.labels) a (all a unbeaten))
  where
    number : (x : Label L) × Has (take s.listed o.labels) x × (x.arrival ≡ a) → (n : ℕ) × (x : Label L) × Among o.announced n × Stored o.labels n x × (x.arrival ≡ a)
    number (x, (i, h, e), p) =
        let st : Stored o.labels i x = take_stored o.labels s.listed i x (h, e) in
        (i, x, g.at_the_goal_is_announced i x (below_take o.labels s.listed i x (h, e)) st (ap (λ (y : Arrival L). y.junction) p ∙ goal), st, p)

every_unbeaten_is_listed : {L : Type 0} (q : Query L) (s : Numbers) (ls : List (Label L)) (ws : List (Candidate L)) → StandsFor q s ls ws → s.waiting ≡ 0 → EveryUnbeatenListed q ls s.listed
every_unbeaten_is_listed q s ls ws st none =
    (nothing_waits_so_the_front_is_listed q st.valid (take s.listed ls) (subst (λ (n : ℕ). Invariant q (take s.listed ls) (labels_of (take n ws))) none st.invariant)).all

known_after : {L : Type 0} (q : Query L) (s : Numbers) (o : State L) → Accounted q s o → KnownAfter q o
known_after q s o g = record {
  each_announced = each_is_announced q s o g;
  all_announced_once_ended = λ e. all_announced q s o g (every_unbeaten_is_listed q s o.labels o.waiting g.stands (g.ended_means_nothing_waits e));
}

-- an accepted trace of an announced label tells a drivable walk to it
written : {L : Type 0} (check : Option Refusal) (s : Numbers) (ls : List (Label L)) (n count : ℕ) (walk walk' : List (Leg L)) → TraceAnswered check s ls n walk walk' (Ok count) → TraceWritten s ls n walk walk' count
written None s ls n count walk walk' r = r
written (Some f) s ls n count walk walk' r = absurd r

announced_trace : {L : Type 0} (q : Query L) (s : Numbers) (o : State L) (n count : ℕ) (walk walk' : List (Leg L)) → Accounted q s o → TracePromise n o.labels walk walk' s (Ok count) → Among o.announced n → AnnouncedTrace q o.labels o.announced n (take count walk')
announced_trace {L} q s o n count walk walk' g promise a =
    let m = each_is_announced q s o g n a in
    let (x, st, traced_walk) = (written (trace_check s (length o.labels) n) s o.labels n count walk walk' promise).legs_of_the_label.drivable_walk_to_the_label q o.waiting g.stands in
    let same : x ≡ m.label = sym (st.1 x) ∙ m.label_n.1 x in
    record { announced = m; drivable_walk_to_it = subst (λ (y : Label L). TracedWalk q o.labels n y (take count walk')) same traced_walk }

-- with budget left and no arrival the standing is ended or full, each exactly when it is so
ended_or_full : {L : Type 0} (q : Query L) (ls : List (Label L)) (a b budget : ℕ) (answer : Standing) → StandingSays q budget ls a b answer → b < a + budget → NoArrival answer → EndedOrFull q ls answer b
ended_or_full q ls a b budget Paused d lt none = absurd (omega (arith, d.0, lt))
ended_or_full q ls a b budget (Arrived n) d lt none = absurd (none n refl)
ended_or_full q ls a b budget Ended d lt none = record {
  ended_exactly_when_every_unbeaten_is_listed = (λ e. d.2, λ e. refl);
  full_exactly_when_all_are_used_and_some_unbeaten_is_unlisted = (λ e. absurd (let z : ◌≡◌ {A = ℕ} 0 1 = cc e in omega (arith, z)), λ f. absurd (f.1.2 (d.2 f.1.0 f.1.1)));
}
ended_or_full q ls a b budget Full d lt none = record {
  ended_exactly_when_every_unbeaten_is_listed = (λ e. absurd (let z : ◌≡◌ {A = ℕ} 0 1 = cc e in omega (arith, z)), λ all. absurd (d.3.2 (all d.3.0 d.3.1)));
  full_exactly_when_all_are_used_and_some_unbeaten_is_unlisted = (λ e. (d.2, d.3), λ f. refl);
}

known_of : {L : Type 0} (Told : Query L → State L → Charting → Type 0) (q : Query L) (h : History L) (c : Call L) (s s' : Numbers) (o : State L) →
    ((o : State L) (x : Charting) → Accounted q s o → ChartPromise x s → Told q o x) →
    ((o' : State L) → Since q o' h → Accounted q s o') → Promise c s s' → Since q o (c ∷ h) → KnownOf Told q o c
known_of Told q h₀ c₀ s s' o₀ tells before promise (begun h t answer) = tt
known_of Told q h₀ c₀ s s' o₀ tells before promise (advanced h o rows m budget t p since er em el ew) = λ lt none.
    let g = before o since in
    let go = advance_accepted rows m budget t s s' p promise in
    let a = go.for_its_query q (sym er) (sym em) (stands_shown q s o t el ew g.stands) in
    subst (λ n. EndedOrFull q t.labels_after p.standing n) (sym go.counts_all_listed) (ended_or_full q t.labels_after s.listed s'.listed budget p.standing a.standing_says (omega (arith, go.counts_those_listed_now, lt)) none)
known_of Told q h₀ c₀ s s' o₀ tells before promise (traced h o n ls walk walk' (Err e) since) = tt
known_of Told q h₀ c₀ s s' o₀ tells before promise (traced h o n ls walk walk' (Ok count) since) = λ same. announced_trace q s o n count walk walk' (before o since) (subst (λ v. TracePromise n v walk walk' s (Ok count)) same promise.0)
known_of Told q h₀ c₀ s s' o₀ tells before promise (charted h o x since) = tells o x (before o since) promise.0
known_of Told q h₀ c₀ s s' o₀ tells before promise (begin_refused h o q' t e since) = tt
known_of Told q h₀ c₀ s s' o₀ tells before promise (advance_refused h o rows m budget t e since) = tt
known_of Told q h₀ c₀ s s' o₀ tells before promise (left_by_other_loads h o since) = tt

-- every run keeps the law, with whatever is told by charts of a search that is accounted for
pub every_run_keeps : {L : Type 0} (Told : Query L → State L → Charting → Type 0) →
    ((q : Query L) (s : Numbers) (o : State L) (x : Charting) → Accounted q s o → ChartPromise x s → Told q o x) →
    (h : History L) (s : Numbers) → Run h s → Keeps Told h
every_run_keeps Told tells h₀ s₀ (no_call_yet s b) = tt
every_run_keeps Told tells h₀ s₀ (one_call_more h c s s' run promise) = (
  (λ q o since. (known_after q s' o (accounted q (c ∷ h) s' o (one_call_more h c s s' run promise) since), known_of Told q h c s s' o (tells q s) (λ o' t. accounted q h s o' run t) promise since)),
  every_run_keeps Told tells h s run,
)

pub law : (L : Type 0) → Law L
law L = every_run_keeps NothingToldOfCharts (λ q s o x g p. tt)

-- a call that does what it promises keeps the law
pub one_call_keeps : {L : Type 0} (c : Call L) (s s' : Numbers) → Promise c s s' → EveryRunKeeps NothingToldOfCharts s c
one_call_keeps {L} c s s' promise h run = law L (c ∷ h) s' (one_call_more h c s s' run promise)
