-- An entry that goes down a heap, one child at a time.
use Rattle.std.proofs.Common.{◌≡◌, ℕ, ◌+◌, ◌*◌, ◌/◌, ◌<◌, ◌≤◌, Bool, true, false, cond, ltb, List, get_or, refl, ap, ◌∙◌, ⊎_elim, arith}
use Rattle.std.specs.Cmp.{IsStrictWeakOrder}
use Rattle.std.specs.List.{SwappedAt}
use Rattle.std.proofs.Permutation.{which}
use Rattle.std.proofs.lemmas.Bool.{ltb-false}
use Rattle.queue.specs.Heaps.{HeapedFrom, Heaped}
use Rattle.queue.specs.Sifting.{LesserChild}
use Rattle.queue.proofs.HeapOrder.{HeapedBut, not_before, not_before_itself}

module _ {X : Type 0} (before : X → X → Bool) where
  -- of the first n entries only the one at j may come after a child
  unfoldable pub Sinking : List X → ℕ → ℕ → Type 0
  Sinking xs j n = HeapedBut before xs j n × ((p : ℕ) (d : X) → p * 2 + 1 ≤ j → j ≤ p * 2 + 2 → j < n → before (get_or xs j d) (get_or xs p d) ≡ false)

  pub sinking_from_the_top : (xs : List X) (n : ℕ) → HeapedFrom before 1 xs n → Sinking xs 0 n
  unfolding Sinking HeapedFrom
  sinking_from_the_top xs n h = ((λ p k d a b f u v. h p k d (omega arith) a b f, λ p k d a b f g i. absurd (omega arith)), λ p d a b f. absurd (omega arith))

  pub heaped_at_a_leaf : (xs : List X) (j n : ℕ) → Sinking xs j n → n / 2 ≤ j → Heaped before xs n
  unfolding Sinking HeapedFrom
  heaped_at_a_leaf xs j n h leaf = λ p k d low a b f. ⊎_elim
      (λ (e : k ≡ j). not_before before (ap (λ m. get_or xs m d) e) refl (h.1 p d (omega arith) (omega arith) (omega arith)))
      (λ v. h.0.0 p k d a b f (omega arith) v) (which k j)

  module _ (order : IsStrictWeakOrder before) where
    neither_child_first : (xs : List X) (j n c k : ℕ) (d : X) (there right_first : Bool) → ltb (j * 2 + 2) n ≡ there → before (get_or xs (j * 2 + 2) d) (get_or xs (j * 2 + 1) d) ≡ right_first → c ≡ cond there (cond right_first (j * 2 + 2) (j * 2 + 1)) (j * 2 + 1) → j * 2 + 1 ≤ k → k ≤ j * 2 + 2 → k < n → before (get_or xs k d) (get_or xs c d) ≡ false
    neither_child_first xs j n c k d true true p q e a b f = ⊎_elim (not_before_itself before order xs c k d)
        (λ u. let l : k ≡ j * 2 + 1 = omega arith in not_before before (ap (λ m. get_or xs m d) l) (ap (λ m. get_or xs m d) e) (order.one_way _ _ q)) (which k c)
    neither_child_first xs j n c k d true false p q e a b f = ⊎_elim (not_before_itself before order xs c k d)
        (λ u. let r : k ≡ j * 2 + 2 = omega arith in not_before before (ap (λ m. get_or xs m d) r) (ap (λ m. get_or xs m d) e) q) (which k c)
    neither_child_first xs j n c k d false right_first p q e a b f = not_before_itself before order xs c k d (omega (arith, ltb-false (j * 2 + 2) n p))

    -- of the children of the entry at j none comes before the lesser one
    lesser_child_first : (xs : List X) (j n c : ℕ) → LesserChild before xs n j c → (k : ℕ) (d : X) → j * 2 + 1 ≤ k → k ≤ j * 2 + 2 → k < n → before (get_or xs k d) (get_or xs c d) ≡ false
    lesser_child_first xs j n c is k d = neither_child_first xs j n c k d _ _ refl refl (is.right_only_if_first d)

    pub heaped_over_the_children : (xs : List X) (j n : ℕ) → Sinking xs j n → (c : ℕ) → LesserChild before xs n j c → ((d : X) → before (get_or xs c d) (get_or xs j d) ≡ false) → Heaped before xs n
    unfolding Sinking HeapedFrom
    heaped_over_the_children xs j n h c is t = λ p k d low a b f. ⊎_elim
        (λ (e : p ≡ j). not_before before refl (ap (λ m. get_or xs m d) e) (order.chain _ _ _ (lesser_child_first xs j n c is k d (omega arith) (omega arith) f) (t d)))
        (λ u. ⊎_elim
        (λ (e : k ≡ j). not_before before (ap (λ m. get_or xs m d) e) refl (h.1 p d (omega arith) (omega arith) (omega arith)))
        (λ v. h.0.0 p k d a b f u v) (which k j)) (which p j)

    -- the entry at j has changed places with its lesser child at c, which came before it
    pub sinking_one_down : (xs ys : List X) (j c n : ℕ) → SwappedAt xs ys j c → LesserChild before xs n j c → ((d : X) → before (get_or xs c d) (get_or xs j d) ≡ true) → Sinking xs j n → Sinking ys c n
    unfolding Sinking
    sinking_one_down xs ys j c n s is t h = (
      (
        λ p k d a b f u v. ⊎_elim
            (λ (e : p ≡ j). not_before before (s.2 k d (omega arith) v) (ap (λ m. get_or ys m d) e ∙ s.0 d) (lesser_child_first xs j n c is k d (omega arith) (omega arith) f))
            (λ w. ⊎_elim
            (λ (e : k ≡ j). not_before before (ap (λ m. get_or ys m d) e ∙ s.0 d) (s.2 p d w u) (h.0.1 p c d (omega arith) (omega arith) is.from_the_left is.to_the_right is.among_the_first))
            (λ z. not_before before (s.2 k d z v) (s.2 p d w u) (h.0.0 p k d a b f w z)) (which k j)) (which p j),
        λ p k d a b f g i.
            let e : p ≡ j = omega arith in
            not_before before (s.2 k d (omega arith) (omega arith)) (ap (λ m. get_or ys m d) e ∙ s.0 d) (h.0.0 c k d f g i (omega arith) (omega arith)),
      ),
      λ p d a b f. let e : p ≡ j = omega arith in not_before before (s.1 d) (ap (λ m. get_or ys m d) e ∙ s.0 d) (order.one_way _ _ (t d)),
    )

  -- an entry on its way down from the first place, now at j, and where it may stop
  pub record WayDown (xs : List X) (j n : ℕ) : Type 0 where
    pub sinking : Sinking xs j n
    pub done_at_a_leaf : n / 2 ≤ j → Heaped before xs n
    pub done_over_the_children : {c : ℕ} → LesserChild before xs n j c → ((d : X) → before (get_or xs c d) (get_or xs j d) ≡ false) → Heaped before xs n

  pub way_down : IsStrictWeakOrder before → (xs : List X) (j n : ℕ) → Sinking xs j n → WayDown xs j n
  way_down order xs j n h = record { sinking = h; done_at_a_leaf = heaped_at_a_leaf xs j n h; done_over_the_children = λ is t. heaped_over_the_children order xs j n h _ is t }
