-- One turn of an advance: what it lists, drops or leaves keeps the search standing.
use Rattle.std.proofs.Common.{◌≡◌, ℕ, ◌+◌, ◌<◌, ◌≤◌, Bool, true, false, eqb, ◌⊎◌, List, [], ◌∷◌, ◌++◌, length, get_or, take, drop, set, Some, Option, sym, refl, ap, ◌∙◌, subst, inl, inr, ⊎_elim, arith, length-set}
use Rattle.std.specs.List.{ContainsAt as Has}
use Rattle.std.proofs.ByRecursion.{has_push, has_shuffled}
use Rattle.std.proofs.lemmas.List.Sorted.{IsPermutation-sym}
use Rattle.std.proofs.lemmas.List.{length-take-le, take_more_set, take-set, drop-set-lt, get_or-set_same}
use Rattle.std.proofs.lemmas.Bool.{eqb-true, eqb-false}
use Rattle.std.specs.Bool.{then_some}
use Rattle.maps.specs.Rows.{Rows}
use Rattle.loads.specs.Meaning.{Meaning}
use Rattle.front.specs.declared.label.Label.{Label}
use Rattle.front.specs.Walks.{Query}
use Rattle.front.specs.Labels.{Served, arrivals}
use Rattle.front.specs.Invariant.{IsNext, Spreads, Invariant}
use Rattle.front.specs.Legs.{Stored}
use Rattle.front.proofs.Serving.{serves_itself}
use Rattle.front.proofs.Walks.{reached_is_a_load}
use Rattle.front.proofs.NextCandidate.{next_candidate_is_reached, next_candidate_is_unbeaten, next_candidate_is_unlisted}
use Rattle.front.proofs.Steps.{listing_keeps_the_invariant, dropping_served_candidates_keeps_the_invariant}
use Rattle.front.proofs.ListedLabels.{nothing_waits_so_the_front_is_listed}
use Rattle.queue.specs.declared.heap.Heap.{Heap}
use Rattle.queue.specs.Heaps.{Heaped, Least}
use Rattle.queue.specs.Waiting.{slots, waiting, InHeapOrder, Pushed}
use Rattle.promises.specs.declared.candidate.Candidate.{Candidate}
use Rattle.promises.specs.declared.standing.Standing.{Standing}
use Rattle.promises.specs.declared.standing.Standing.TheVariants.{Arrived, Ended, Full}
use Rattle.promises.specs.Numbers.{Numbers}
use Rattle.promises.specs.Order.{leaves_before}
use Rattle.search.specs.Steps.{offer, GrownBy, Dropped, Taken, EachServed}
use Rattle.promises.specs.StandsFor.{labels_of, StandsFor}
use Rattle.search.specs.Turns.{Turned, listed_by, TurnedFor, TurnSays, Lists}
use Rattle.promises.specs.Numbers.{KeepsItsQuery, tables}
use Rattle.search.proofs.Queueing.{has_there, has_cons, has_none, heaped_zero, waits, heaped, in_heap_order}
use Rattle.search.proofs.OnTheFront.{dropped_thins, next, spreads, offer_leads}

pub stands_again : {L : Type 0} (q : Query L) (s s' : Numbers) (ls ls' : List (Label L)) (ws ws' : List (Candidate L)) → StandsFor q s ls ws → KeepsItsQuery s s' → length ls' ≡ length ls → length ws' ≡ length ws → s'.listed ≤ length ls'
    → Heaped leaves_before ws' s'.waiting → ((c : Candidate L) → Has (take s'.waiting ws') c → c.rank ≡ q.kind.rank c.label.arrival.load) → Invariant q (take s'.listed ls') (labels_of (take s'.waiting ws')) → StandsFor q s' ls' ws'
stands_again q s s' ls ls' ws ws' st n el ew within order ranked front = record {
  valid = st.valid;
  begun = n.begun ∙ st.begun;
  junctions = n.junctions ∙ st.junctions;
  goal = n.goal ∙ st.goal;
  deadline = n.deadline ∙ st.deadline;
  room = n.room ∙ (st.room ∙ sym el);
  width = n.width ∙ (st.width ∙ sym ew);
  listed_within_the_table = within;
  waiting_in_heap_order = order;
  candidates_carry_their_rank = ranked;
  invariant = front;
}

module _ {L : Type 0} (q : Query L) (s : Numbers) (ls : List (Label L)) (ws : List (Candidate L)) (st : StandsFor q s ls ws) where
  number : s.listed ≡ length (take s.listed ls)
  number = sym (length-take-le s.listed ls st.listed_within_the_table)

  -- nothing waits that is not served
  pub ended : (s' : Numbers) (ws' : List (Candidate L)) → KeepsItsQuery s s' → s'.listed ≡ s.listed → s'.waiting ≡ 0 → length ws' ≡ length ws → Heaped leaves_before ws' s'.waiting → EachServed q.kind (take s.listed ls) (take s.waiting ws) → TurnedFor q (tables ls ws ls ws') s s' (Some Ended)
  ended s' ws' n el ez ew hp all = record { stands = stands_again q s s' ls ls ws ws' st n refl ew (omega (arith, el, st.listed_within_the_table)) hp ranked' front'; says = λ a u. subst (λ (k : ℕ). Has (arrivals (take k ls)) a) (sym el) ((nothing_waits_so_the_front_is_listed q st.valid (take s.listed ls) none).all a u) }
    where
      drop : Dropped q.kind (take s.listed ls) (take s.waiting ws) []
      drop = record { each_waited = λ d h. absurd (has_none d h); what_waited_is_served_or_waits = λ d h. inl (all d h) }

      none : Invariant q (take s.listed ls) []
      none = dropping_served_candidates_keeps_the_invariant q (take s.listed ls) (labels_of (take s.waiting ws)) [] st.invariant (dropped_thins q.kind q refl (take s.listed ls) (take s.waiting ws) [] drop)

      ranked' : (c : Candidate L) → Has (take s'.waiting ws') c → c.rank ≡ q.kind.rank c.label.arrival.load
      ranked' c h = absurd (has_none c (subst (λ (k : ℕ). Has (take k ws') c) ez h))

      front' : Invariant q (take s'.listed ls) (labels_of (take s'.waiting ws'))
      front' = subst (λ (k : ℕ). Invariant q (take k ls) (labels_of (take s'.waiting ws'))) (sym el) (subst (λ (k : ℕ). Invariant q (take s.listed ls) (labels_of (take k ws'))) (sym ez) none)

  module _ (c : Candidate L) (cs : List (Candidate L)) (tk : Taken q.kind (take s.listed ls) (take s.waiting ws) c cs) (ls_least : Least leaves_before c (c ∷ cs)) where
    ranked_in : (d : Candidate L) → Has (c ∷ cs) d → d.rank ≡ q.kind.rank d.label.arrival.load
    ranked_in d h = st.candidates_carry_their_rank d (tk.dropped_before_it.each_waited d h)

    thinned : Invariant q (take s.listed ls) (labels_of (c ∷ cs))
    thinned = dropping_served_candidates_keeps_the_invariant q (take s.listed ls) (labels_of (take s.waiting ws)) (labels_of (c ∷ cs)) st.invariant (dropped_thins q.kind q refl (take s.listed ls) (take s.waiting ws) (c ∷ cs) tk.dropped_before_it)

    is_next : IsNext q (take s.listed ls) (labels_of (c ∷ cs)) c.label
    is_next = next q (take s.listed ls) cs c ranked_in ls_least tk.not_served

    not_listed : Has (arrivals (take s.listed ls)) c.label.arrival → ⊥
    not_listed = next_candidate_is_unlisted q st.valid (take s.listed ls) (labels_of (c ∷ cs)) c.label thinned is_next

    -- no label is free for the next arrival
    pub full : (s' : Numbers) (ws' : List (Candidate L)) → KeepsItsQuery s s' → s'.listed ≡ s.listed → s.listed ≡ s.room → length ws' ≡ length ws → Heaped leaves_before ws' s'.waiting
        → ((d : Candidate L) → Has (c ∷ cs) d → Has (take s'.waiting ws') d) → ((d : Candidate L) → Has (take s'.waiting ws') d → Has (c ∷ cs) d) → TurnedFor q (tables ls ws ls ws') s s' (Some Full)
    full s' ws' n el er ew hp to from = record { stands = stands_again q s s' ls ls ws ws' st n refl ew (omega (arith, el, st.listed_within_the_table)) hp (λ d h. ranked_in d (from d h)) front'; says = (el ∙ (er ∙ st.room), (c.label.arrival, next_candidate_is_unbeaten q st.valid (take s.listed ls) (labels_of (c ∷ cs)) c.label thinned is_next, λ h. not_listed (subst (λ (k : ℕ). Has (arrivals (take k ls)) c.label.arrival) el h))) }
      where
        drop : Dropped q.kind (take s.listed ls) (take s.waiting ws) (take s'.waiting ws')
        drop = record { each_waited = λ d h. tk.dropped_before_it.each_waited d (from d h); what_waited_is_served_or_waits = λ d h. ⊎_elim inl (λ x. inr (to d x)) (tk.dropped_before_it.what_waited_is_served_or_waits d h) }

        front' : Invariant q (take s'.listed ls) (labels_of (take s'.waiting ws'))
        front' = subst (λ (k : ℕ). Invariant q (take k ls) (labels_of (take s'.waiting ws'))) (sym el) (dropping_served_candidates_keeps_the_invariant q (take s.listed ls) (labels_of (take s.waiting ws)) (labels_of (take s'.waiting ws')) st.invariant (dropped_thins q.kind q refl (take s.listed ls) (take s.waiting ws) (take s'.waiting ws') drop))

    -- the next arrival is listed
    pub listed : (s' : Numbers) (ws' : List (Candidate L)) (ls' : List (Label L)) (r : Option Standing) → KeepsItsQuery s s' → s'.listed ≡ s.listed + 1 → s.listed < s.room → ls' ≡ set ls s.listed c.label → length ws' ≡ length ws → Heaped leaves_before ws' s'.waiting
        → GrownBy (offer q.rows q.kind q.deadline c.label.arrival s.listed) 12 cs (take s'.waiting ws') → r ≡ then_some (eqb c.label.arrival.junction s.goal) (Arrived s.listed) → TurnedFor q (tables ls ws ls' ws') s s' r
    listed s' ws' ls' r n el lt e ew hp g answer = record {
      stands = stands_again q s s' ls ls' ws ws' st n (ap length e ∙ length-set ls s.listed c.label) ew (omega (arith, el, inside, ap length e ∙ length-set ls s.listed c.label)) hp ranked' front';
      says = subst (λ (x : Option Standing). TurnSays q s.listed s'.listed ls' x) (sym answer) (says' (eqb c.label.arrival.junction s.goal) refl);
    }
      where
        inside : s.listed < length ls
        inside = omega (arith, lt, st.room)

        first_listed : take s'.listed ls' ≡ take s.listed ls ++ c.label ∷ []
        first_listed = ap (λ (k : ℕ). take k ls') el ∙ (ap (take (s.listed + 1)) e ∙ take_more_set ls s.listed c.label inside)

        at_first : Served q.kind (take s.listed ls ++ c.label ∷ []) c.label.arrival
        at_first = (c.label, has_push (take s.listed ls) c.label, serves_itself q.kind st.valid.lawful c.label.arrival (reached_is_a_load q st.valid c.label.arrival (next_candidate_is_reached q st.valid (take s.listed ls) (labels_of (c ∷ cs)) c.label thinned is_next)))

        kept₀ : (d : Candidate L) → Has (c ∷ cs) d → Served q.kind (take s.listed ls ++ c.label ∷ []) d.label.arrival ⊎ Has cs d
        kept₀ d h = ⊎_elim (λ p. inl (subst (λ (y : Candidate L). Served q.kind (take s.listed ls ++ c.label ∷ []) y.label.arrival) p at_first)) inr (has_cons c d cs h)

        spread : Spreads q (take s.listed ls) (labels_of (c ∷ cs)) c.label (labels_of (take s'.waiting ws'))
        spread = spreads q (take s.listed ls) st.valid s.listed number (c ∷ cs) cs (take s'.waiting ws') c.label (λ d h. has_there c d cs h) kept₀ g

        front' : Invariant q (take s'.listed ls') (labels_of (take s'.waiting ws'))
        front' = subst (λ (v : List (Label L)). Invariant q v (labels_of (take s'.waiting ws'))) (sym first_listed) (listing_keeps_the_invariant q st.valid (take s.listed ls) (labels_of (c ∷ cs)) (labels_of (take s'.waiting ws')) c.label thinned is_next spread)

        ranks : (d : Candidate L) → Has cs d ⊎ ((k : ℕ) × (k < 12) × (offer q.rows q.kind q.deadline c.label.arrival s.listed k ≡ Some d)) → d.rank ≡ q.kind.rank d.label.arrival.load
        ranks d (inl h) = ranked_in d (has_there c d cs h)
        ranks d (inr (k, l, o)) = let (b, ld, p) = offer_leads q c.label.arrival s.listed k d o in subst (λ (y : Candidate L). y.rank ≡ q.kind.rank y.label.arrival.load) p refl

        ranked' : (d : Candidate L) → Has (take s'.waiting ws') d → d.rank ≡ q.kind.rank d.label.arrival.load
        ranked' d h = ranks d (g.each_waited_or_was_offered d h)

        the_label : (x : Label L) → Stored ls' s.listed x → c.label ≡ x
        the_label x p = sym (get_or-set_same ls s.listed c.label x inside) ∙ (ap (λ (v : List (Label L)). get_or v s.listed x) (sym e) ∙ p.1 x)

        says' : (t : Bool) → eqb c.label.arrival.junction s.goal ≡ t → TurnSays q s.listed s'.listed ls' (then_some t (Arrived s.listed))
        says' true h = (refl, λ x p. ap (λ (y : Label L). y.arrival.junction) (sym (the_label x p)) ∙ (eqb-true _ _ h ∙ st.goal))
        says' false h = λ x p j. eqb-false _ _ h (ap (λ (y : Label L). y.arrival.junction) (the_label x p) ∙ (j ∙ sym st.goal))

one_listed : (b : Bool) (n : ℕ) → listed_by (then_some b (Arrived n)) ≡ 1
one_listed true n = refl
one_listed false n = refl

not_ended : (b : Bool) (n : ℕ) → then_some b (Arrived n) ≡ Some Ended → ⊥
not_ended true n e = cc
not_ended false n e = cc

module _ {L : Type 0} (rows : Rows) (m : Meaning L) (ls : List (Label L)) (ws : List (Candidate L)) (s s' : Numbers) (fits : s.listed ≤ s.room) where
  pub turn_ended : (ws' : List (Candidate L)) → EachServed m (take s.listed ls) (take s.waiting ws) → KeepsItsQuery s s' → s'.listed ≡ s.listed → s'.waiting ≡ 0 → length ws' ≡ length ws → Turned rows m (tables ls ws ls ws') s s' (Some Ended)
  turn_ended ws' all n el ez ew = record { count = omega (arith, el); within = omega (arith, el, fits, n.room); keeps_its_query = n; earlier_untouched = refl; later_untouched = refl; still = λ _. ez; nothing_waits_once_ended = λ _. ez; for_its_query = λ q er ek st. ended q s ls ws st s' ws' n el ez ew (subst (λ (k : ℕ). Heaped leaves_before ws' k) (sym ez) (heaped_zero leaves_before ws')) (subst (λ (k : Meaning L). EachServed k (take s.listed ls) (take s.waiting ws)) (sym ek) all) }

  module _ (h₀ h : Heap (Candidate L)) (el : h₀.len ≡ s.waiting) (es : slots h₀ ≡ ws) (c : Candidate L) (lt : h.len < h₀.len) (tk : Taken m (take s.listed ls) (waiting h₀) c (waiting h))
      (hp : InHeapOrder leaves_before h₀ → InHeapOrder leaves_before h) (first : InHeapOrder leaves_before h₀ → Least leaves_before c (c ∷ waiting h)) where
    taken : (q : Query L) → q.kind ≡ m → Taken q.kind (take s.listed ls) (take s.waiting ws) c (waiting h)
    taken q ek = subst (λ (k : Meaning L). Taken k (take s.listed ls) (take s.waiting ws) c (waiting h)) (sym ek) (waits h₀ ws s.waiting el es (λ v. Taken m (take s.listed ls) v c (waiting h)) tk)

    least : Heaped leaves_before ws s.waiting → Least leaves_before c (c ∷ waiting h)
    least x = first (in_heap_order h₀ ws s.waiting el es leaves_before x)

    ordered : Heaped leaves_before ws s.waiting → InHeapOrder leaves_before h
    ordered x = hp (in_heap_order h₀ ws s.waiting el es leaves_before x)

    module _ (ws' : List (Candidate L)) (k : Heap (Candidate L)) (el' : k.len ≡ s'.waiting) (es' : slots k ≡ ws') (long : length ws' ≡ length ws) where
      pub turn_full : KeepsItsQuery s s' → s'.listed ≡ s.listed → s.listed ≡ s.room → Pushed leaves_before h c k → Turned rows m (tables ls ws ls ws') s s' (Some Full)
      turn_full n e er p = record {
        count = omega (arith, e);
        within = omega (arith, e, fits, n.room);
        keeps_its_query = n;
        earlier_untouched = refl;
        later_untouched = refl;
        still = λ z. absurd (omega (arith, z, lt, el));
        nothing_waits_once_ended = λ a. cc;
        for_its_query = λ q eq ek st. full q s ls ws st c (waiting h) (taken q ek) (least st.waiting_in_heap_order) s' ws' n e er long (heaped k ws' s'.waiting el' es' leaves_before (p.keeps_heap_order (ordered st.waiting_in_heap_order)))
            (λ d x. waits k ws' s'.waiting el' es' (λ v. Has v d) (has_shuffled (c ∷ waiting h) (waiting k) d p.adds_exactly_the_entry x))
            (λ d x. has_shuffled (waiting k) (c ∷ waiting h) d (IsPermutation-sym (c ∷ waiting h) (waiting k) p.adds_exactly_the_entry) (waits k ws' s'.waiting el' es' (λ v. Has v d → Has (waiting k) d) (λ y. y) x));
      }

      pub turn_listed : (ls' : List (Label L)) (r : Option Standing) → s.listed < s.room → Lists rows m ls ls' h k s s' c.label r → Turned rows m (tables ls ws ls' ws') s s' r
      turn_listed ls' r room l = record {
        count = l.count ∙ ap (λ (k : ℕ). s.listed + k) (sym (ap listed_by l.answer ∙ one_listed _ s.listed));
        within = omega (arith, l.count, l.keeps_its_query.room, room);
        keeps_its_query = l.keeps_its_query;
        earlier_untouched = ap (take s.listed) l.labels ∙ take-set ls s.listed c.label;
        later_untouched = ap (drop s'.listed) l.labels ∙ drop-set-lt s'.listed ls s.listed c.label (omega (arith, l.count));
        still = λ z. absurd (omega (arith, z, lt, el));
        nothing_waits_once_ended = λ e. absurd (not_ended _ s.listed (sym l.answer ∙ e));
        for_its_query = λ q er ek st. listed q s ls ws st c (waiting h) (taken q ek) (least st.waiting_in_heap_order) s' ws' ls' r l.keeps_its_query l.count room l.labels long (heaped k ws' s'.waiting el' es' leaves_before (l.keeps_heap_order (ordered st.waiting_in_heap_order))) (grown q er ek st.deadline) l.answer;
      }
        where
          grown : (q : Query L) → q.rows ≡ rows → q.kind ≡ m → s.deadline ≡ q.deadline → GrownBy (offer q.rows q.kind q.deadline c.label.arrival s.listed) 12 (waiting h) (take s'.waiting ws')
          grown q er ek ed = subst (λ (x : Rows). GrownBy (offer x q.kind q.deadline c.label.arrival s.listed) 12 (waiting h) (take s'.waiting ws')) (sym er) (subst (λ (x : Meaning L). GrownBy (offer rows x q.deadline c.label.arrival s.listed) 12 (waiting h) (take s'.waiting ws')) (sym ek) (subst (λ (x : ℕ). GrownBy (offer rows m x c.label.arrival s.listed) 12 (waiting h) (take s'.waiting ws')) ed (waits k ws' s'.waiting el' es' (λ v. GrownBy (offer rows m s.deadline c.label.arrival s.listed) 12 (waiting h) v) l.grown)))
