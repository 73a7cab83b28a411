-- The queue's calls, as steps of a search.
use Rattle.std.proofs.Common.{◌≡◌, ℕ, zero, suc, ◌+◌, ◌<◌, ◌≤◌, Bool, true, false, ◌⊎◌, List, [], ◌∷◌, take, Some, None, Option, sym, refl, ap, ◌∙◌, subst, inl, inr, ⊎_elim, arith}
use Rattle.std.specs.List.Sorted.{IsPermutation}
use Rattle.std.specs.List.{ContainsAt as Has}
use Rattle.std.proofs.lemmas.List.Sorted.{IsPermutation-sym}
use Rattle.std.proofs.ByRecursion.{has_shuffled, all_shuffled}
use Rattle.std.proofs.lemmas.Bool.{cases_order}
use Rattle.loads.specs.Meaning.{Meaning}
use Rattle.front.specs.declared.label.Label.{Label}
use Rattle.queue.specs.declared.heap.Heap.{Heap}
use Rattle.queue.specs.Heaps.{Heaped, HeapedFrom, Least}
use Rattle.queue.specs.Waiting.{slots, waiting, OverSameSlice, InHeapOrder, Pushed, Popped}
use Rattle.promises.specs.declared.candidate.Candidate.{Candidate}
use Rattle.promises.specs.Order.{leaves_before}
use Rattle.search.specs.Steps.{served_by, GrownBy, Dropped, Taken}

pub has_here : {X : Type 0} (x : X) (xs : List X) → Has (x ∷ xs) x
has_here x xs = (0, omega arith, λ d. refl)

pub has_there : {X : Type 0} (x y : X) (xs : List X) → Has xs y → Has (x ∷ xs) y
has_there x y xs (k, h, e) = (suc k, omega (arith, h), e)

pub has_cons : {X : Type 0} (x y : X) (xs : List X) → Has (x ∷ xs) y → (x ≡ y) ⊎ Has xs y
has_cons x y xs (zero, h, e) = inl (e x)
has_cons x y xs (suc k, h, e) = inr (k, omega (arith, h), e)

pub has_none : {X : Type 0} (x : X) → Has [] x → ⊥
has_none x (k, h, e) = omega (arith, h)

pub grown_some : {X : Type 0} (off : ℕ → Option X) (n : ℕ) (cs cs₁ cs₂ : List X) (e : X) → GrownBy off n cs cs₁ → IsPermutation (e ∷ cs₁) cs₂ → off n ≡ Some e → GrownBy off (n + 1) cs cs₂
grown_some {X} off n cs cs₁ cs₂ e g s o = record { each_waited_or_was_offered = λ d h. only' d (has_cons e d cs₁ (has_shuffled cs₂ (e ∷ cs₁) d (IsPermutation-sym (e ∷ cs₁) cs₂ s) h)); what_waited_waits = λ d h. to d (has_there e d cs₁ (g.what_waited_waits d h)); what_was_offered_waits = λ k d h p. came' k d h p (cases_order k n) }
  where
    to : (d : X) → Has (e ∷ cs₁) d → Has cs₂ d
    to d h = has_shuffled (e ∷ cs₁) cs₂ d s h

    old : (d : X) → Has cs d ⊎ ((k : ℕ) × (k < n) × (off k ≡ Some d)) → Has cs d ⊎ ((k : ℕ) × (k < n + 1) × (off k ≡ Some d))
    old d (inl h) = inl h
    old d (inr (k, h, p)) = inr (k, omega (arith, h), p)

    only' : (d : X) → (e ≡ d) ⊎ Has cs₁ d → Has cs d ⊎ ((k : ℕ) × (k < n + 1) × (off k ≡ Some d))
    only' d (inl p) = inr (n, omega arith, o ∙ ap Some p)
    only' d (inr h) = old d (g.each_waited_or_was_offered d h)

    came' : (k : ℕ) (d : X) → k < n + 1 → off k ≡ Some d → (k ≡ n) ⊎ ((k < n) ⊎ (n < k)) → Has cs₂ d
    came' k d h p (inl q) = let same : e ≡ d = cc (o, p, ap off q) in subst (λ (y : X). Has cs₂ y) same (to e (has_here e cs₁))
    came' k d h p (inr (inl q)) = to d (has_there e d cs₁ (g.what_was_offered_waits k d q p))
    came' k d h p (inr (inr q)) = absurd (omega arith)

pub grown_skip : {X : Type 0} (off : ℕ → Option X) (n : ℕ) (cs cs₁ : List X) → GrownBy off n cs cs₁ → off n ≡ None → GrownBy off (n + 1) cs cs₁
grown_skip {X} off n cs cs₁ g o = record { each_waited_or_was_offered = λ d h. old d (g.each_waited_or_was_offered d h); what_waited_waits = g.what_waited_waits; what_was_offered_waits = λ k d h p. came' k d h p (cases_order k n) }
  where
    old : (d : X) → Has cs d ⊎ ((k : ℕ) × (k < n) × (off k ≡ Some d)) → Has cs d ⊎ ((k : ℕ) × (k < n + 1) × (off k ≡ Some d))
    old d (inl h) = inl h
    old d (inr (k, h, p)) = inr (k, omega (arith, h), p)

    came' : (k : ℕ) (d : X) → k < n + 1 → off k ≡ Some d → (k ≡ n) ⊎ ((k < n) ⊎ (n < k)) → Has cs₁ d
    came' k d h p (inl q) = absurd (let z : ◌≡◌ {A = ℕ} 0 1 = cc (o, p, ap off q) in omega (arith, z))
    came' k d h p (inr (inl q)) = g.what_was_offered_waits k d q p
    came' k d h p (inr (inr q)) = absurd (omega arith)

-- what holds of a queue over a table holds of the first n records of the table
module _ {X : Type 0} (h : Heap X) (ws : List X) (n : ℕ) (el : h.len ≡ n) (es : slots h ≡ ws) where
  pub waits : (P : List X → Type 0) → P (waiting h) → P (take n ws)
  waits P p = subst P (ap (λ k. take k (slots h)) el ∙ ap (take n) es) p

  pub heaped : (before : X → X → Bool) → InHeapOrder before h → Heaped before ws n
  heaped before x = subst (λ v. Heaped before v n) es (subst (λ k. Heaped before (slots h) k) el x)

  pub in_heap_order : (before : X → X → Bool) → Heaped before ws n → InHeapOrder before h
  in_heap_order before x = subst (λ v. Heaped before v h.len) (sym es) (subst (λ k. Heaped before ws k) (sym el) x)

pub heaped_zero : {X : Type 0} (b : X → X → Bool) (xs : List X) → Heaped b xs 0
unfolding HeapedFrom
heaped_zero b xs parent child d lo h k lt = absurd (omega (arith, lt))

module _ {L : Type 0} where
  -- a queue that has taken the first n offers
  pub record Filling (off : ℕ → Option (Candidate L)) (n : ℕ) (h₀ h : Heap (Candidate L)) : Type 0 where
    pub over_the_same_slice : OverSameSlice h₀ h
    pub few : h.len ≤ h₀.len + n
    pub grown : GrownBy off n (waiting h₀) (waiting h)
    pub keeps_heap_order : InHeapOrder leaves_before h₀ → InHeapOrder leaves_before h

  pub same_on : (h k l : Heap (Candidate L)) → OverSameSlice h k → OverSameSlice k l → OverSameSlice h l
  same_on h k l a b = record { same_lender = b.same_lender ∙ a.same_lender; same_length = b.same_length ∙ a.same_length }

  -- a push that has room is done
  pub filling_some : (off : ℕ → Option (Candidate L)) (n : ℕ) (h₀ h k : Heap (Candidate L)) (e : Candidate L) → Filling off n h₀ h → OverSameSlice h k → Pushed leaves_before h e k → off n ≡ Some e → Filling off (n + 1) h₀ k
  filling_some off n h₀ h k e f t p o = record {
    over_the_same_slice = same_on h₀ h k f.over_the_same_slice t;
    few = omega (arith, p.counts_one_more, f.few);
    grown = grown_some off n (waiting h₀) (waiting h) (waiting k) e f.grown p.adds_exactly_the_entry o;
    keeps_heap_order = λ x. p.keeps_heap_order (f.keeps_heap_order x);
  }

  pub filling_skip : (off : ℕ → Option (Candidate L)) (n : ℕ) (h₀ h : Heap (Candidate L)) → Filling off n h₀ h → off n ≡ None → Filling off (n + 1) h₀ h
  filling_skip off n h₀ h f o = record { over_the_same_slice = f.over_the_same_slice; few = omega (arith, f.few); grown = grown_skip off n (waiting h₀) (waiting h) f.grown o; keeps_heap_order = f.keeps_heap_order }

  module _ (m : Meaning L) (ls : List (Label L)) where
    pub dropped_shuffled : (cs cs₁ cs₂ : List (Candidate L)) → Dropped m ls cs cs₁ → IsPermutation cs₁ cs₂ → Dropped m ls cs cs₂
    dropped_shuffled cs cs₁ cs₂ p s = record { each_waited = λ d h. p.each_waited d (has_shuffled cs₂ cs₁ d (IsPermutation-sym cs₁ cs₂ s) h); what_waited_is_served_or_waits = λ d h. ⊎_elim inl (λ x. inr (has_shuffled cs₁ cs₂ d s x)) (p.what_waited_is_served_or_waits d h) }

    pub dropped_one : (cs cs₂ : List (Candidate L)) (c : Candidate L) → Dropped m ls cs (c ∷ cs₂) → served_by m ls c.label.arrival ≡ true → Dropped m ls cs cs₂
    dropped_one cs cs₂ c p e = record { each_waited = λ d h. p.each_waited d (has_there c d cs₂ h); what_waited_is_served_or_waits = λ d h. ⊎_elim inl (λ x. ⊎_elim (λ q. inl (subst (λ (y : Candidate L). served_by m ls y.label.arrival ≡ true) q e)) inr (has_cons c d cs₂ x)) (p.what_waited_is_served_or_waits d h) }

    -- a queue from which some served candidates were taken
    pub record Dropping (h₀ h : Heap (Candidate L)) : Type 0 where
      pub over_the_same_slice : OverSameSlice h₀ h
      pub few : h.len ≤ h₀.len
      pub dropped : Dropped m ls (waiting h₀) (waiting h)
      pub keeps_heap_order : InHeapOrder leaves_before h₀ → InHeapOrder leaves_before h

    pub dropping_one : (h₀ h k : Heap (Candidate L)) (c : Candidate L) → Dropping h₀ h → OverSameSlice h k → Popped leaves_before h c k → served_by m ls c.label.arrival ≡ true → Dropping h₀ k
    dropping_one h₀ h k c d t o e = record {
      over_the_same_slice = same_on h₀ h k d.over_the_same_slice t;
      few = omega (arith, d.few, o.counts_one_fewer);
      dropped = dropped_one (waiting h₀) (waiting k) c (dropped_shuffled (waiting h₀) (waiting h) (c ∷ waiting k) d.dropped o.removes_exactly_the_answer) e;
      keeps_heap_order = λ x. o.keeps_heap_order (d.keeps_heap_order x);
    }

    pub taken : (h₀ h k : Heap (Candidate L)) (c : Candidate L) → Dropping h₀ h → Popped leaves_before h c k → served_by m ls c.label.arrival ≡ false → (k.len < h₀.len) × Taken m ls (waiting h₀) c (waiting k)
    taken h₀ h k c d o e = (omega (arith, d.few, o.counts_one_fewer), record { dropped_before_it = dropped_shuffled (waiting h₀) (waiting h) (c ∷ waiting k) d.dropped o.removes_exactly_the_answer; not_served = e })

    pub first : (h₀ h k : Heap (Candidate L)) (c : Candidate L) → Dropping h₀ h → Popped leaves_before h c k → InHeapOrder leaves_before h₀ → Least leaves_before c (c ∷ waiting k)
    first h₀ h k c d o x = all_shuffled (λ y. leaves_before y c ≡ false) (waiting h) (c ∷ waiting k) o.removes_exactly_the_answer (o.was_first.none_comes_before_it (d.keeps_heap_order x))
