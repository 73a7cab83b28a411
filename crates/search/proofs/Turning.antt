-- The turns of an advance, one after the other.
use Rattle.std.proofs.Common.{◌≡◌, ℕ, ◌+◌, ◌-◌, ◌<◌, ◌≤◌, not, ◌&&◌, eqb, List, length, take, drop, Some, None, Option, sym, ap, ◌∙◌, subst, ⊎_elim, arith}
use Rattle.std.proofs.lemmas.List.{take-take, drop-drop}
use Rattle.std.proofs.lemmas.Bool.{cases_lt, eqb-true, and_parts, not-false}
use Rattle.maps.specs.Rows.{Rows}
use Rattle.loads.specs.Meaning.{Meaning}
use Rattle.refusals.specs.declared.refusal.Refusal.TheVariants.{NotBegun, NotAsBegun}
use Rattle.front.specs.declared.label.Label.{Label}
use Rattle.front.specs.Walks.{Query}
use Rattle.front.specs.Front.{FrontBegins}
use Rattle.front.specs.Legs.{Stored}
use Rattle.front.specs.Labels.{arrivals}
use Rattle.promises.specs.declared.candidate.Candidate.{Candidate}
use Rattle.promises.specs.declared.standing.Progress.{Progress}
use Rattle.promises.specs.declared.standing.Standing.{Standing}
use Rattle.promises.specs.declared.standing.Standing.TheVariants.{Paused, Arrived, Ended, Full}
use Rattle.promises.specs.Numbers.{Numbers, KeepsItsQuery, tables}
use Rattle.promises.specs.StandsFor.{StandsFor}
use Rattle.promises.specs.Advance.{NoneAt, StandingSays, Advanced, advance_check}
use Rattle.promises.proofs.Records.{stored_back}
use Rattle.search.specs.Turns.{Turned, TurnSays, listed_by}
use Rattle.search.proofs.Beginning.{passes}

-- an advance under way that found a labels listed: none listed since is at the goal
pub record UnderWay {L : Type 0} (q : Query L) (a : ℕ) (s : Numbers) (ls : List (Label L)) (ws : List (Candidate L)) : Type 0 where
  pub stands : StandsFor q s ls ws
  pub none : NoneAt ls a s.listed q.goal

-- what holds after i turns of an advance that began at the numbers s₀ and the tables ls₀ and ws₀
pub record AfterTurns {L : Type 0} (rows : Rows) (m : Meaning L) (i : ℕ) (s₀ : Numbers) (ls₀ : List (Label L)) (ws₀ : List (Candidate L)) (s : Numbers) (ls : List (Label L)) (ws : List (Candidate L)) : Type 0 where
  pub count : s.listed ≡ s₀.listed + i
  pub keeps_its_query : KeepsItsQuery s₀ s
  pub earlier_untouched : take s₀.listed ls ≡ take s₀.listed ls₀
  pub later_untouched : drop s.listed ls ≡ drop s.listed ls₀
  pub still : s₀.waiting ≡ 0 → s.waiting ≡ 0
  pub under_way : (q : Query L) → q.rows ≡ rows → q.kind ≡ m → StandsFor q s₀ ls₀ ws₀ → UnderWay q s₀.listed s ls ws

same_later : {X : Type 0} (m n : ℕ) (xs ys : List X) → m ≤ n → drop m xs ≡ drop m ys → drop n xs ≡ drop n ys
same_later {X} m n xs ys le e =
    let split : m + (n - m) ≡ n = omega arith in
    ap (λ k. drop k xs) (sym split) ∙ (sym (drop-drop (n - m) m xs) ∙ (ap (drop (n - m)) e ∙ (drop-drop (n - m) m ys ∙ ap (λ k. drop k ys) split)))

module _ {L : Type 0} (rows : Rows) (m : Meaning L) (i : ℕ) (s₀ s s' : Numbers) (ls₀ ls ls' : List (Label L)) (ws₀ ws ws' : List (Candidate L)) (inv : AfterTurns rows m i s₀ ls₀ ws₀ s ls ws) where
  -- what a turn leaves of what the turns before it left
  module _ (r : Option Standing) (t : Turned rows m (tables ls ws ls' ws') s s' r) where
    keeps : KeepsItsQuery s₀ s'
    keeps = let n = t.keeps_its_query in let o = inv.keeps_its_query in record { begun = n.begun ∙ o.begun; junctions = n.junctions ∙ o.junctions; goal = n.goal ∙ o.goal; deadline = n.deadline ∙ o.deadline; room = n.room ∙ o.room; width = n.width ∙ o.width }

    earlier : take s₀.listed ls' ≡ take s₀.listed ls₀
    earlier =
        let le : s₀.listed ≤ s.listed = omega (arith, inv.count) in
        sym (take-take s₀.listed s.listed ls' le) ∙ (ap (take s₀.listed) t.earlier_untouched ∙ (take-take s₀.listed s.listed ls le ∙ inv.earlier_untouched))

    later : drop s'.listed ls' ≡ drop s'.listed ls₀
    later = t.later_untouched ∙ same_later s.listed s'.listed ls ls₀ (omega (arith, t.count)) inv.later_untouched

    none_kept : (q : Query L) → UnderWay q s₀.listed s ls ws → NoneAt ls' s₀.listed s.listed q.goal
    none_kept q u i x lo hi p g = u.none i x lo hi (stored_back ls' ls s.listed i x hi u.stands.listed_within_the_table t.earlier_untouched p) g

  pub one_turn_more : Turned rows m (tables ls ws ls' ws') s s' None → AfterTurns rows m (i + 1) s₀ ls₀ ws₀ s' ls' ws'
  one_turn_more t = record {
    count = omega (arith, inv.count, t.count);
    keeps_its_query = keeps None t;
    earlier_untouched = earlier None t;
    later_untouched = later None t;
    still = λ z. t.still (inv.still z);
    under_way = λ q er ek st. let u = inv.under_way q er ek st in let d = t.for_its_query q er ek u.stands in
        record { stands = d.stands; none = λ j x lo hi p g. ⊎_elim (λ l. none_kept None t q u j x lo l p g) (λ l. let z : j ≡ s.listed = omega (arith, l, hi, t.count) in d.says x (subst (λ k. Stored ls' k x) z p) g) (cases_lt j s.listed) };
  }

  module _ (budget : ℕ) (lt : i < budget) (p : Progress) (lens : length ls₀ ≡ s₀.room) (el : length ls' ≡ length ls₀) (ew : length ws' ≡ length ws₀) where
    -- what the turn that ends the advance says is what its standing says of the advance
    standing : (answer : Standing) (t : Turned rows m (tables ls ws ls' ws') s s' (Some answer)) (q : Query L) → UnderWay q s₀.listed s ls ws → TurnSays q s.listed s'.listed ls' (Some answer) → StandingSays q budget ls' s₀.listed s'.listed answer
    standing Paused t q u says = absurd says
    standing (Arrived n) t q u says = (omega (arith, says.0, inv.count), omega (arith, says.0, t.count), (λ j x lo hi st g. none_kept (Some (Arrived n)) t q u j x lo (omega (arith, hi, says.0)) st g), λ x st. says.1 x (subst (λ k. Stored ls' k x) says.0 st))
    standing Ended t q u says =
        let e : s'.listed ≡ s.listed = omega (arith, t.count) in
        (omega (arith, e, inv.count, lt), subst (λ k. NoneAt ls' s₀.listed k q.goal) (sym e) (none_kept (Some Ended) t q u), says)
    standing Full t q u says =
        let e : s'.listed ≡ s.listed = omega (arith, t.count) in
        (omega (arith, e, inv.count, lt), subst (λ k. NoneAt ls' s₀.listed k q.goal) (sym e) (none_kept (Some Full) t q u), says.0, says.1)

    at_most_one : (answer : Standing) → listed_by (Some answer) ≤ 1
    at_most_one Paused = omega arith
    at_most_one (Arrived n) = omega arith
    at_most_one Ended = omega arith
    at_most_one Full = omega arith

    pub last_turn : (answer : Standing) → Turned rows m (tables ls ws ls' ws') s s' (Some answer) → (p.standing ≡ answer) × (s₀.listed + p.listed_now ≡ s'.listed) × (p.listed_in_all ≡ s'.listed) → Advanced rows m budget (tables ls₀ ws₀ ls' ws') s₀ s' p
    last_turn answer t c = record {
      counts_all_listed = c.2;
      counts_those_listed_now = sym c.1;
      lists_within_the_budget = omega (arith, c.1, t.count, inv.count, lt, at_most_one answer);
      lists_within_the_table = omega (arith, t.within, t.keeps_its_query.room, inv.keeps_its_query.room, lens, el);
      labels_keep_their_length = el;
      waiting_keeps_its_length = ew;
      earlier_labels_untouched = earlier (Some answer) t;
      later_labels_untouched = later (Some answer) t;
      keeps_its_query = keeps (Some answer) t;
      nothing_comes_to_wait_once_nothing_waits = λ z. t.still (inv.still z);
      nothing_waits_once_ended = λ e. t.nothing_waits_once_ended (ap Some (sym c.0 ∙ e));
      for_its_query = λ q er ek st. let u = inv.under_way q er ek st in let d = t.for_its_query q er ek u.stands in record {
        listed_labels_begin_the_front = subst (λ n. FrontBegins q (arrivals (take n ls'))) (sym c.2) d.stands.invariant.listed_begin_the_front;
        standing_says = subst (λ x. StandingSays q budget ls' s₀.listed s'.listed x) (sym c.0) (standing answer t q u d.says);
        stands = d.stands;
      };
    }

-- the budget is used
pub budget_used : {L : Type 0} (rows : Rows) (m : Meaning L) (budget i : ℕ) (s₀ s : Numbers) (ls₀ ls : List (Label L)) (ws₀ ws : List (Candidate L)) → AfterTurns rows m i s₀ ls₀ ws₀ s ls ws → i ≡ budget → s.listed ≤ s.room → (p : Progress) → length ls₀ ≡ s₀.room → length ls ≡ length ls₀ → length ws ≡ length ws₀
    → (p.standing ≡ Paused) × (s₀.listed + p.listed_now ≡ s.listed) × (p.listed_in_all ≡ s.listed) → Advanced rows m budget (tables ls₀ ws₀ ls ws) s₀ s p
budget_used rows m budget i s₀ s ls₀ ls ws₀ ws inv ei fits p lens el ew c = record {
  counts_all_listed = c.2;
  counts_those_listed_now = sym c.1;
  lists_within_the_budget = omega (arith, c.1, inv.count, ei);
  lists_within_the_table = omega (arith, fits, inv.keeps_its_query.room, lens, el);
  labels_keep_their_length = el;
  waiting_keeps_its_length = ew;
  earlier_labels_untouched = inv.earlier_untouched;
  later_labels_untouched = inv.later_untouched;
  keeps_its_query = inv.keeps_its_query;
  nothing_comes_to_wait_once_nothing_waits = inv.still;
  nothing_waits_once_ended = λ e. cc c.0;
  for_its_query = λ q er ek st. let u = inv.under_way q er ek st in record {
    listed_labels_begin_the_front = subst (λ n. FrontBegins q (arrivals (take n ls))) (sym c.2) u.stands.invariant.listed_begin_the_front;
    standing_says = subst (λ x. StandingSays q budget ls s₀.listed s.listed x) (sym c.0) (omega (arith, inv.count, ei), u.none);
    stands = u.stands;
  };
}

-- the tables are as long as at begin
pub lengths : (s : Numbers) (n N W budget : ℕ) → None ≡ advance_check s n N W budget → (N ≡ s.room) × (W ≡ s.width)
lengths s n N W budget e =
    let a = passes (not s.begun) NotBegun _ (sym e) in
    let b = passes (not (eqb n s.junctions && (eqb N s.room && eqb W s.width))) NotAsBegun _ a.1 in
    let c = and_parts (eqb n s.junctions) _ (not-false _ b.0) in
    let d = and_parts (eqb N s.room) _ c.1 in
    (eqb-true N s.room d.0, eqb-true W s.width d.1)
