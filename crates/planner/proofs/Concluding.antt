-- What an office may conclude, from what begin, advance and trace promise.
use Rattle.std.proofs.Common.{◌≡◌, ℕ, min, zero, suc, ◌<◌, ◌≤◌, Bool, cond, List, length, get_or, take, Some, None, Ok, Option, ◌==◌, sym, refl, ap, ◌∙◌, subst, ⊎_elim, arith}
use lib.ListN.{length-map}
use Rattle.std.specs.List.{ContainsAt as Has}
use Rattle.std.proofs.lemmas.List.{take_all}
use Rattle.std.proofs.lemmas.Bool.Decides.{nat_tests}
use Rattle.std.proofs.lemmas.Bool.{cases_lt}
use Rattle.refusals.specs.declared.refusal.Refusal.{Refusal}
use Rattle.loads.specs.declared.charge.Charge.{Charge}
use Rattle.front.specs.declared.arrival.Arrival.{Arrival}
use Rattle.front.specs.declared.label.Label.{Label}
use Rattle.front.specs.Walks.{Query, Drives}
use Rattle.front.specs.Front.{FrontBegins, Unbeaten}
use Rattle.front.specs.Legs.{Stored, places}
use Rattle.front.specs.Labels.{arrivals}
use Rattle.front.specs.Invariant.{Invariant}
use Rattle.front.proofs.Legs.{legs_drive_their_places}
use Rattle.front.proofs.ListedLabels.{junction_without_label_is_not_reached}
use Rattle.promises.specs.declared.candidate.Candidate.{Candidate}
use Rattle.promises.specs.declared.standing.Progress.{Progress}
use Rattle.promises.specs.declared.standing.Standing.{Standing}
use Rattle.promises.specs.declared.standing.Standing.TheVariants.{Paused, Arrived, Ended, Full}
use Rattle.promises.specs.Numbers.{Numbers, tables, AllUnchanged}
use Rattle.promises.specs.StandsFor.{StandsFor, labels_of}
use Rattle.promises.specs.Refuses.{Refuses}
use Rattle.promises.specs.Begin.{begin_check, BeginPromise, Begun}
use Rattle.promises.specs.Advance.{advance_check, Advanced, AdvancedFor, AdvancePromise, StandingSays, NoneAt, LabelAt, SomeUnbeatenUnlisted}
use Rattle.promises.proofs.Records.{take_stored, below_take}
use Rattle.promises.proofs.ListedLabels.{listed_is_unbeaten, label_0_is_the_departure, first_at_the_goal_is_the_fastest}
use Rattle.planner.specs.declared.answer.Answer.{Answer}
use Rattle.planner.specs.declared.answer.Answer.TheVariants.{Route}
use Rattle.planner.specs.Answer.{AnsweredBy, MayConclude, FrontHasMore, NoDrive}
use Rattle.planner.specs.Told.{RoadsOf, ToldBy}

-- a call that was accepted passed its checks
pub accepted : {A : Type 0} (check : Option Refusal) (a : A) (same : Type 0) (P : A → Type 0) → Refuses check (Ok a) same P → (check ≡ None) × P a
accepted None a same P r = (refl, r)
accepted (Some f) a same P r = absurd r

answered : (check : Option Refusal) (q : Query Charge) (n : ℕ) (answer : Answer) → check ≡ None → MayConclude q n answer → AnsweredBy check q n (Ok answer)
answered check q n answer e x = subst (λ o. AnsweredBy o q n (Ok answer)) (sym e) x

-- a label that is at the goal, and before which none is, tells the fastest drive
module _ (q : Query Charge) (s : Numbers) (ls : List (Label Charge)) (ws : List (Candidate Charge)) (st : StandsFor q s ls ws) where
  first_at_the_goal_tells_the_fastest : (most n roads : ℕ) → n < s.listed → NoneAt ls 0 n q.goal → LabelAt ls n q.goal → RoadsOf s ls n roads → (answer : Answer)
      → ((d : Label Charge) → answer ≡ Route (record { seconds = (get_or ls n d).arrival.time; charge = (get_or ls n d).arrival.load.level; roads = roads })) → MayConclude q most answer
  first_at_the_goal_tells_the_fastest most n count lt none at roads answer is =
      let (w, x, here, traced, counted) = roads q ws st lt in
      let goal = at x here in
      let told : answer ≡ Route (record { seconds = x.arrival.time; charge = x.arrival.load.level; roads = count }) = is x ∙ ap (λ (y : Label Charge). Route (record { seconds = y.arrival.time; charge = y.arrival.load.level; roads = count })) (here.1 x) in
      subst (λ (a : Answer). MayConclude q most a) (sym told) (record {
        walk = places w;
        drives_to_the_goal = subst (λ (a : Arrival Charge). Drives q (places w) a) (λ i. record { junction = goal i; time = x.arrival.time; load = x.arrival.load }) (legs_drive_their_places q traced.drives);
        unbeaten = subst (λ (a : Arrival Charge). Unbeaten q a) (λ i. record { junction = goal i; time = x.arrival.time; load = x.arrival.load }) (listed_is_unbeaten q s ls ws st n x lt here);
        of_so_many_roads = length-map w (λ l. l.place) ∙ sym counted;
        none_faster = first_at_the_goal_is_the_fastest q s ls ws st n x lt here goal (λ i y hi at_i g. ⊎_elim (λ (l : i < n). absurd (none i y (omega arith) l at_i g)) (λ l. l) (cases_lt i n));
      })

module _ (q : Query Charge) (s s' : Numbers) (ls ls' : List (Label Charge)) (ws ws' : List (Candidate Charge)) (st : StandsFor q s ls ws) (one : s.listed ≡ 1) (elsewhere : q.start ≡ q.goal → ⊥)
    (budget : ℕ) (p : Progress) (adv : Advanced q.rows q.kind budget (tables ls ws ls' ws') s s' p) (roomy : length ls ≤ budget) where
  after : AdvancedFor q budget (tables ls ws ls' ws') s s' p
  after = adv.for_its_query q refl refl st

  says : (answer : Standing) → p.standing ≡ answer → StandingSays q budget ls' s.listed s'.listed answer
  says answer e = subst (λ x. StandingSays q budget ls' s.listed s'.listed x) e after.standing_says

  -- label 0 is at the start
  not_label_0 : (x : Label Charge) → Stored ls' 0 x → x.arrival.junction ≡ q.goal → ⊥
  not_label_0 x p g = elsewhere (sym (ap (λ (a : Arrival Charge). a.junction) (label_0_is_the_departure q s' ls' ws' after.stands x p)) ∙ g)

  from_the_first : (b : ℕ) → NoneAt ls' s.listed b q.goal → NoneAt ls' 0 b q.goal
  from_the_first b none zero x lo hi st g = not_label_0 x st g
  from_the_first b none (suc i) x lo hi st g = none (suc i) x (omega (arith, one)) hi st g

  pub ended_means_no_drive : p.standing ≡ Ended → NoDrive q
  ended_means_no_drive e a reached goal =
      junction_without_label_is_not_reached q after.stands.valid (take s'.listed ls')
      (subst (λ (n : ℕ). Invariant q (take s'.listed ls') (labels_of (take n ws'))) (adv.nothing_waits_once_ended e) after.stands.invariant) q.goal none a reached goal
    where
      none : (y : Label Charge) → Has (take s'.listed ls') y → y.arrival.junction ≡ q.goal → ⊥
      none y (i, h, d) g = from_the_first s'.listed (says Ended e).1 i y (omega arith) (below_take ls' s'.listed i y (h, d)) (take_stored ls' s'.listed i y (h, d)) g

  pub never_paused : p.standing ≡ Paused → ⊥
  never_paused e = omega (arith, (says Paused e).0, one, adv.lists_within_the_table, adv.labels_keep_their_length, roomy)

  pub full_means_more : p.standing ≡ Full → FrontHasMore q (length ls)
  full_means_more e = record {
    labels = ls';
    all_used = adv.labels_keep_their_length;
    begin_the_front = subst (λ (xs : List (Label Charge)). FrontBegins q (arrivals xs)) (take_all p.listed_in_all ls' (omega (arith, adv.counts_all_listed, (says Full e).2))) after.listed_labels_begin_the_front;
    none_at_the_goal = subst (λ n. NoneAt ls' 0 n q.goal) used (from_the_first s'.listed (says Full e).1);
    some_unlisted = subst (λ n. SomeUnbeatenUnlisted q ls' n) used (says Full e).3;
  }
    where
      used : s'.listed ≡ length ls
      used = (says Full e).2 ∙ adv.labels_keep_their_length

  pub told_is_so : (standing : Standing) → p.standing ≡ standing → (answer : Answer) → ToldBy s' ls' standing answer → MayConclude q (length ls) answer
  told_is_so (Arrived n) e answer (count, roads, is) =
      let said = says (Arrived n) e in
      first_at_the_goal_tells_the_fastest q s' ls' ws' after.stands (length ls) n count (omega (arith, said.1)) (from_the_first n said.2) said.3 roads answer is
  told_is_so Ended e answer is = subst (λ (a : Answer). MayConclude q (length ls) a) (sym is) (ended_means_no_drive e)
  told_is_so Full e answer is = subst (λ (a : Answer). MayConclude q (length ls) a) (sym is) (full_means_more e)
  told_is_so Paused e answer is = absurd (never_paused e)

arrived_at_the_start : (start goal : ℕ) (began : Standing) → began ≡ cond (start == goal) (Arrived 0) Paused → (began ≡ Paused → ⊥) → (began ≡ Arrived 0) × (start ≡ goal)
arrived_at_the_start start goal began e arrived = grind (arith, nat_tests)

elsewhere : (start goal : ℕ) (began : Standing) → began ≡ cond (start == goal) (Arrived 0) Paused → began ≡ Paused → start ≡ goal → ⊥
elsewhere start goal began e paused there = grind (arith, nat_tests)

few_labels : (n : ℕ) (admitted : Bool) (start goal deadline labels waiting : ℕ) → begin_check n admitted start goal deadline labels waiting ≡ None → labels ≤ 65535
few_labels n admitted start goal deadline labels waiting e = grind (arith, nat_tests)

-- a search for a query began, with the lent tables
module _ (q : Query Charge) (ls₀ ls : List (Label Charge)) (ws₀ ws : List (Candidate Charge)) (s₀ s : Numbers) (began : Standing) (begun : BeginPromise q (tables ls₀ ws₀ ls ws) s₀ s (Ok began)) where
  first : (begin_check (length q.rows) (q.kind.admits q.load) q.start q.goal q.deadline (length ls₀) (length ws₀) ≡ None) × Begun q (tables ls₀ ws₀ ls ws) s began
  first = accepted (begin_check (length q.rows) (q.kind.admits q.load) q.start q.goal q.deadline (length ls₀) (length ws₀)) began (AllUnchanged (tables ls₀ ws₀ ls ws) s₀ s) (Begun q (tables ls₀ ws₀ ls ws) s) begun

  -- label 0 is at the goal, where begin did not pause
  pub so_at_the_start : (began ≡ Paused → ⊥) → (answer : Answer) → ToldBy s ls began answer → AnsweredBy (begin_check (length q.rows) (q.kind.admits q.load) q.start q.goal q.deadline (length ls₀) (length ws₀)) q (length ls₀) (Ok answer)
  so_at_the_start arrived answer told =
      let (is, there) = arrived_at_the_start q.start q.goal began first.1.arrived_exactly_when_start_is_goal arrived in
      let (count, roads, route) = rw is at told in
      answered _ q (length ls₀) answer first.0 (first_at_the_goal_tells_the_fastest q s ls ws first.1.stands (length ls₀) 0 count (omega (arith, first.1.one_label_is_listed)) (λ i x lo hi. absurd (omega arith)) (λ x here. ap (λ (a : Arrival Charge). a.junction) (label_0_is_the_departure q s ls ws first.1.stands x here) ∙ there) roads answer route)

  pub so_after_the_advance : began ≡ Paused → length ls ≡ length ls₀ → (ls' : List (Label Charge)) (ws' : List (Candidate Charge)) (s' : Numbers) (budget : ℕ) → budget ≡ min (length ls) 65535 → (p : Progress) → AdvancePromise q.rows q.kind budget (tables ls ws ls' ws') s s' (Ok p) → (answer : Answer) → ToldBy s' ls' p.standing answer
      → AnsweredBy (begin_check (length q.rows) (q.kind.admits q.load) q.start q.goal q.deadline (length ls₀) (length ws₀)) q (length ls₀) (Ok answer)
  so_after_the_advance paused same ls' ws' s' budget is p advanced answer told =
      let roomy : length ls ≤ budget = omega (arith, few_labels (length q.rows) (q.kind.admits q.load) q.start q.goal q.deadline (length ls₀) (length ws₀) first.0) in
      let adv = (accepted (advance_check s (length q.rows) (length ls) (length ws) budget) p (AllUnchanged (tables ls ws ls' ws') s s') (Advanced q.rows q.kind budget (tables ls ws ls' ws') s s') advanced).1 in
      answered _ q (length ls₀) answer first.0 (subst (λ n. MayConclude q n answer) same (told_is_so q s s' ls ls' ws ws' first.1.stands first.1.one_label_is_listed (elsewhere q.start q.goal began first.1.arrived_exactly_when_start_is_goal paused) budget p adv roomy p.standing refl answer told))
