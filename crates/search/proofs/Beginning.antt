-- A begin that passes its checks leaves a search that stands.
use Rattle.std.proofs.Common.{◌≡◌, ℕ, ◌*◌, ◌<◌, ◌≤◌, Bool, true, false, cond, not, ◌||◌, eqb, ltb, ◌⊎◌, List, [], ◌∷◌, length, take, set, Some, None, Ok, Option, sym, refl, ap, ◌∙◌, subst, inl, inr, arith, length-set}
use Rattle.std.specs.List.{ContainsAt as Has}
use Rattle.std.proofs.lemmas.List.{take_more_set}
use Rattle.std.proofs.lemmas.Bool.{ltb-true, ltb-false, eqb-false, not-false, or_parts}
use Rattle.refusals.specs.declared.refusal.Refusal.{Refusal}
use Rattle.refusals.specs.declared.refusal.Refusal.TheVariants.{StartOffMap, GoalOffMap, StartLoadNotAdmitted, DeadlineTooLate, LabelTableSize, WaitingTableTooShort}
use Rattle.maps.specs.Rows.{Sound}
use Rattle.loads.specs.Laws.{Laws}
use Rattle.front.specs.declared.label.Label.{Label}
use Rattle.front.specs.Walks.{Query, Valid, departure}
use Rattle.front.specs.Invariant.{Spreads, Invariant}
use Rattle.front.proofs.Steps.{begins_with_the_empty_walk}
use Rattle.queue.specs.declared.heap.Heap.{Heap}
use Rattle.queue.specs.Heaps.{Heaped}
use Rattle.queue.specs.Waiting.{slots, waiting, InHeapOrder}
use Rattle.promises.specs.declared.standing.Standing.{Standing}
use Rattle.promises.specs.declared.standing.Standing.TheVariants.{Paused, Arrived}
use Rattle.promises.specs.Refuses.{Refuses}
use Rattle.promises.specs.declared.candidate.Candidate.{Candidate}
use Rattle.promises.specs.Numbers.{Numbers, AllUnchanged, tables}
use Rattle.promises.specs.Order.{leaves_before}
use Rattle.search.specs.Steps.{offer, GrownBy}
use Rattle.promises.specs.StandsFor.{labels_of, StandsFor}
use Rattle.promises.specs.Begin.{first_label, begin_check, Begun, BeginPromise}
use Rattle.search.proofs.Queueing.{has_none, waits, heaped, heaped_zero}
use Rattle.search.proofs.OnTheFront.{spreads, offer_leads}

pub passes : (b : Bool) (f : Refusal) (o : Option Refusal) → cond b (Some f) o ≡ None → (b ≡ false) × (o ≡ None)
passes true f o e = cc
passes false f o e = (refl, e)

pub record Passed (n : ℕ) (t : Bool) (a b D N W : ℕ) : Type 0 where
  pub start : a < n
  pub goal : b < n
  pub admitted : t ≡ true
  pub deadline : D ≤ 999999
  pub some : 1 ≤ N
  pub few : N ≤ 65535
  pub wide : 12 * N ≤ W

pub passed : (n : ℕ) (admitted : Bool) (start goal D N W : ℕ) → None ≡ begin_check n admitted start goal D N W → Passed n admitted start goal D N W
passed n admitted start goal D N W e =
    let a = passes (not (ltb start n)) StartOffMap _ (sym e) in
    let b = passes (not (ltb goal n)) GoalOffMap _ a.1 in
    let c = passes (not admitted) StartLoadNotAdmitted _ b.1 in
    let d = passes (ltb 999999 D) DeadlineTooLate _ c.1 in
    let f = passes (eqb N 0 || ltb 65535 N) LabelTableSize _ d.1 in
    let g = passes (ltb W (12 * N)) WaitingTableTooShort _ f.1 in
    let h = or_parts (eqb N 0) (ltb 65535 N) f.0 in
    let nz = eqb-false N 0 h.0 in
    record { start = ltb-true start n (not-false _ a.0); goal = ltb-true goal n (not-false _ b.0); admitted = not-false _ c.0; deadline = ltb-false 999999 D d.0; some = omega (arith, nz); few = ltb-false 65535 N h.1; wide = ltb-false W (12 * N) g.0 }

-- the numbers that a begin leaves, of so many junctions, labels, records for candidates, and candidates that wait
abbrev pub begun_numbers : {L : Type 0} → Query L → ℕ → ℕ → ℕ → ℕ → Numbers
begun_numbers q junctions room width w = record { begun = true; junctions = junctions; goal = q.goal; deadline = q.deadline; room = room; width = width; listed = 1; waiting = w }

module _ {L : Type 0} (q : Query L) (sound : Sound q.rows) (lawful : Laws q.kind) (ls : List (Label L)) (ws : List (Candidate L)) (accepted : None ≡ begin_check (length q.rows) (q.kind.admits q.load) q.start q.goal q.deadline (length ls) (length ws))
    (h₀ h : Heap (Candidate L)) (empty : h₀.len ≡ 0) (heap_kept : InHeapOrder leaves_before h₀ → InHeapOrder leaves_before h) (grown : GrownBy (offer q.rows q.kind q.deadline (departure q) 0) 12 (waiting h₀) (waiting h))
    (ls' : List (Label L)) (ws' : List (Candidate L)) (junctions w : ℕ) (ej : junctions ≡ length q.rows) (el : ls' ≡ set ls 0 (first_label q)) (ew : h.len ≡ w) (es : slots h ≡ ws') (long : length ws' ≡ length ws) where
  checks : Passed (length q.rows) (q.kind.admits q.load) q.start q.goal q.deadline (length ls) (length ws)
  checks = passed (length q.rows) (q.kind.admits q.load) q.start q.goal q.deadline (length ls) (length ws) accepted

  valid : Valid q
  valid = record { sound = sound; lawful = lawful; admitted = checks.admitted }

  offered : GrownBy (offer q.rows q.kind q.deadline (departure q) 0) 12 [] (take w ws')
  offered = waits h ws' w ew es (λ v. GrownBy (offer q.rows q.kind q.deadline (departure q) 0) 12 [] v) (subst (λ k. GrownBy (offer q.rows q.kind q.deadline (departure q) 0) 12 (take k (slots h₀)) (waiting h)) empty grown)

  ranks : (d : Candidate L) → Has [] d ⊎ ((k : ℕ) × (k < 12) × (offer q.rows q.kind q.deadline (departure q) 0 k ≡ Some d)) → d.rank ≡ q.kind.rank d.label.arrival.load
  ranks d (inl x) = absurd (has_none d x)
  ranks d (inr (k, l, o)) = let (b, ld, p) = offer_leads q (departure q) 0 k d o in subst (λ (y : Candidate L). y.rank ≡ q.kind.rank y.label.arrival.load) p refl

  spread : Spreads q [] [] (first_label q) (labels_of (take w ws'))
  spread = spreads q [] valid 0 refl [] [] (take w ws') (first_label q) (λ d x. x) (λ d x. inr x) offered

  first_listed : take 1 ls' ≡ first_label q ∷ []
  first_listed = ap (take 1) el ∙ take_more_set ls 0 (first_label q) checks.some

  stands : StandsFor q (begun_numbers q junctions (length ls) (length ws) w) ls' ws'
  stands = record {
    valid = valid;
    begun = refl;
    junctions = ej;
    goal = refl;
    deadline = refl;
    room = sym (ap length el ∙ length-set ls 0 (first_label q));
    width = sym long;
    listed_within_the_table = omega (arith, checks.some, ap length el ∙ length-set ls 0 (first_label q));
    waiting_in_heap_order = heaped h ws' w ew es leaves_before (heap_kept (subst (λ k. Heaped leaves_before (slots h₀) k) (sym empty) (heaped_zero leaves_before (slots h₀))));
    candidates_carry_their_rank = λ d x. ranks d (offered.each_waited_or_was_offered d x);
    invariant = subst (λ (v : List (Label L)). Invariant q v (labels_of (take w ws'))) (sym first_listed) (begins_with_the_empty_walk q valid (first_label q) (labels_of (take w ws')) refl spread);
  }

  -- an accepted begin
  pub begun : (answer : Standing) → answer ≡ cond (eqb q.start q.goal) (Arrived 0) Paused → (s : Numbers) → BeginPromise q (tables ls ws ls' ws') s (begun_numbers q junctions (length ls) (length ws) w) (Ok answer)
  begun answer e s = subst (λ o. Refuses o (Ok answer) (AllUnchanged (tables ls ws ls' ws') s (begun_numbers q junctions (length ls) (length ws) w)) (Begun q (tables ls ws ls' ws') (begun_numbers q junctions (length ls) (length ws) w))) accepted
      (record { label_0_is_the_empty_walk = el; one_label_is_listed = refl; arrived_exactly_when_start_is_goal = e; stands = stands })
