-- Heap order: what a write keeps of it, and why the first entry is the least.
use Rattle.std.proofs.Common.{◌≡◌, MatchOption, Some, None, Option, ℕ, zero, suc, ◌+◌, ◌-◌, ◌*◌, ◌/◌, ◌<◌, ◌≤◌, Bool, true, false, List, [], ◌∷◌, ◌++◌, length, get_or, take, drop, set, sym, refl, ap, ◌∙◌, subst, ⊎_elim, arith}
use Rattle.std.specs.Cmp.{IsStrictWeakOrder}
use Rattle.std.proofs.Permutation.{which}
use Rattle.std.proofs.lemmas.List.{length-take-le, get_or-take, get_or-set_other}
use Rattle.std.proofs.ByRecursion.{All-from_get_or}
use Rattle.std.specs.List.{slice_get}
use Rattle.std.proofs.lemmas.Option.{get_or_from_slice_get, slice_get_within}
use Rattle.queue.specs.declared.heap.Heap.{Heap}
use Rattle.queue.specs.Heaps.{HeapedFrom, Heaped, Least}
use Rattle.queue.specs.Waiting.{slots, waiting, First}
use Rattle.queue.proofs.Rearranging.{front}

module _ {X : Type 0} (before : X → X → Bool) where
  -- what does not come before stays so under equal names
  pub not_before : {a b x y : X} → a ≡ x → b ≡ y → before x y ≡ false → before a b ≡ false
  not_before p q h = (λ k. before (p k) (q k)) ∙ h

  -- a heap of the first n entries is one of a list that begins with them
  pub heaped_in_front : (low : ℕ) (xs : List X) (m n : ℕ) → m ≤ n → HeapedFrom before low xs m → HeapedFrom before low (take n xs) m
  unfolding HeapedFrom
  heaped_in_front low xs m n le h = λ p k d from a b f. not_before (get_or-take n xs k d (omega arith)) (get_or-take n xs p d (omega arith)) (h p k d from a b f)

  pub heaped_before_others : (low : ℕ) (xs : List X) (n : ℕ) → HeapedFrom before low (take n xs) n → HeapedFrom before low xs n
  unfolding HeapedFrom
  heaped_before_others low xs n h = λ p k d from a b f. not_before (sym (get_or-take n xs k d (omega arith))) (sym (get_or-take n xs p d (omega arith))) (h p k d from a b f)

  -- the first n entries of a slice were sifted into ys
  pub sifted_in_front : (low m n : ℕ) (ws ys : List X) → length ys ≡ n → m ≤ n → (HeapedFrom before low (take n ws) m → Heaped before ys n) → HeapedFrom before low ws m → Heaped before (ys ++ drop n ws) n
  sifted_in_front low m n ws ys e less sift h = heaped_before_others 0 (ys ++ drop n ws) n (subst (λ (l : List X). Heaped before l n) (sym (front n ys (drop n ws) e)) (sift (heaped_in_front low ws m n less h)))

  -- the first n are a heap but for the entry at j, and j's children may follow j's parent
  abbrev pub HeapedBut : List X → ℕ → ℕ → Type 0
  HeapedBut xs j n =
      ((p k : ℕ) (d : X) → p * 2 + 1 ≤ k → k ≤ p * 2 + 2 → k < n → (p ≡ j → ⊥) → (k ≡ j → ⊥) → before (get_or xs k d) (get_or xs p d) ≡ false)
      × ((p k : ℕ) (d : X) → p * 2 + 1 ≤ j → j ≤ p * 2 + 2 → j * 2 + 1 ≤ k → k ≤ j * 2 + 2 → k < n → before (get_or xs k d) (get_or xs p d) ≡ false)

  pub no_entries_heaped : (xs : List X) → Heaped before xs 0
  unfolding HeapedFrom
  no_entries_heaped xs = λ p k d low a b f. absurd (omega arith)

  -- a write behind the heap keeps it
  pub heaped_after_write_behind : (xs : List X) (n : ℕ) (x : X) → Heaped before xs n → Heaped before (set xs n x) n
  unfolding HeapedFrom
  heaped_after_write_behind xs n x h = λ p k d low a b f. not_before (get_or-set_other xs n k x d (omega arith)) (get_or-set_other xs n p x d (omega arith)) (h p k d low a b f)

  -- a write at the first place keeps the rest
  pub heaped_after_write_first : (xs : List X) (n m : ℕ) (x : X) → m ≤ n → Heaped before xs n → HeapedFrom before 1 (set xs 0 x) m
  unfolding HeapedFrom
  heaped_after_write_first xs n m x le h = λ p k d low a b f. not_before (get_or-set_other xs 0 k x d (omega arith)) (get_or-set_other xs 0 p x d (omega arith)) (h p k d (omega arith) a b (omega arith))

  module _ (order : IsStrictWeakOrder before) where
    irreflexive : (x : X) (b : Bool) → before x x ≡ b → before x x ≡ false
    irreflexive x true e = order.one_way x x e
    irreflexive x false e = e

    pub not_before_itself : (xs : List X) (j k : ℕ) (d : X) → k ≡ j → before (get_or xs k d) (get_or xs j d) ≡ false
    not_before_itself xs j k d e = not_before (ap (λ m. get_or xs m d) e) refl (irreflexive (get_or xs j d) _ refl)

    -- going up from parent to parent ends at the first entry
    none_before_first : (xs : List X) (n : ℕ) (d : X) → Heaped before xs n → (fuel k : ℕ) → k ≤ fuel → k < n → before (get_or xs k d) (get_or xs 0 d) ≡ false
    unfolding HeapedFrom
    none_before_first xs n d h zero k a b = not_before_itself xs 0 k d (omega arith)
    none_before_first xs n d h (suc fuel) k a b = ⊎_elim (not_before_itself xs 0 k d)
        (λ u. order.chain _ _ _ (h ((k - 1) / 2) k d (omega arith) (omega arith) (omega arith) b) (none_before_first xs n d h fuel ((k - 1) / 2) (omega arith) (omega arith))) (which k 0)

    pub first_is_least : (xs : List X) (n : ℕ) (x : X) → n ≤ length xs → get_or xs 0 x ≡ x → Heaped before xs n → Least before x (take n xs)
    first_is_least xs n x le e h = All-from_get_or (λ y. before y x ≡ false) (take n xs) x
        (λ i p. let q : i < n = omega (arith, length-take-le n xs le) in not_before (get_or-take n xs i x q) (sym e) (none_before_first xs n x h i i (omega arith) q))

    none_waits : (n : ℕ) (xs : List X) → n ≤ length xs → None ≡ slice_get (take n xs) 0 → n ≡ 0
    none_waits zero xs le e = refl
    none_waits (suc n) [] le e = absurd (omega arith)
    none_waits (suc n) (x ∷ xs) le e = cc

    -- the first of those that wait, if any does
    pub first_of_those_waiting : (h : Heap X) (o : Option X) → o ≡ slice_get (waiting h) 0 → MatchOption o (h.len ≡ 0) (First before h)
    first_of_those_waiting h None e = none_waits h.len (slots h) h.within e
    first_of_those_waiting h (Some x) e =
        let short = length-take-le h.len (slots h) h.within in
        let some : 0 < h.len = omega (arith, slice_get_within (waiting h) 0 x (sym e)) in
        let first : (d : X) → get_or (slots h) 0 d ≡ x = λ d. sym (get_or-take h.len (slots h) 0 d some) ∙ get_or_from_slice_get (waiting h) 0 x d (sym e) in
        record {
          in_first_place = first;
          one_of_those_waiting = (0, omega arith, λ d. get_or_from_slice_get (waiting h) 0 x d (sym e));
          none_comes_before_it = first_is_least (slots h) h.len x h.within (first x);
        }
