-- An entry that goes up a heap, one parent at a time.
use Rattle.std.proofs.Common.{◌≡◌, ℕ, ◌+◌, ◌-◌, ◌*◌, ◌/◌, ◌<◌, ◌≤◌, Bool, true, false, List, get_or, refl, ap, ◌∙◌, ⊎_elim, arith}
use Rattle.std.specs.Cmp.{IsStrictWeakOrder}
use Rattle.std.specs.List.{SwappedAt}
use Rattle.std.proofs.Permutation.{which}
use Rattle.queue.specs.Heaps.{HeapedFrom, Heaped}
use Rattle.queue.proofs.HeapOrder.{HeapedBut, not_before}

module _ {X : Type 0} (before : X → X → Bool) where
  -- of the first n entries only the one at j may come before its parent
  unfoldable pub Rising : List X → ℕ → ℕ → Type 0
  Rising xs j n = HeapedBut before xs j n × ((k : ℕ) (d : X) → j * 2 + 1 ≤ k → k ≤ j * 2 + 2 → k < n → before (get_or xs k d) (get_or xs j d) ≡ false)

  pub rising_from_the_end : (xs : List X) (n : ℕ) → 0 < n → Heaped before xs (n - 1) → Rising xs (n - 1) n
  unfolding Rising HeapedFrom
  rising_from_the_end xs n some h = ((λ p k d a b f u v. h p k d (omega arith) a b (omega arith), λ p k d a b f g i. absurd (omega arith)), λ k d a b f. absurd (omega arith))

  pub heaped_at_the_top : (xs : List X) (j n : ℕ) → Rising xs j n → j ≡ 0 → Heaped before xs n
  unfolding Rising HeapedFrom
  heaped_at_the_top xs j n h z = λ p k d low a b f. ⊎_elim
      (λ (e : p ≡ j). not_before before refl (ap (λ m. get_or xs m d) e) (h.1 k d (omega arith) (omega arith) f))
      (λ u. h.0.0 p k d a b f u (omega arith)) (which p j)

  heaped_under_a_parent : (xs : List X) (j q n : ℕ) → q * 2 + 1 ≤ j → j ≤ q * 2 + 2 → ((d : X) → before (get_or xs j d) (get_or xs q d) ≡ false) → Rising xs j n → Heaped before xs n
  unfolding Rising HeapedFrom
  heaped_under_a_parent xs j q n from to t h = λ p k d low a b f. ⊎_elim
      (λ (e : p ≡ j). not_before before refl (ap (λ m. get_or xs m d) e) (h.1 k d (omega arith) (omega arith) f))
      (λ u. ⊎_elim
      (λ (e : k ≡ j). let s : p ≡ q = omega arith in not_before before (ap (λ m. get_or xs m d) e) (ap (λ m. get_or xs m d) s) (t d))
      (λ v. h.0.0 p k d a b f u v) (which k j)) (which p j)

  pub heaped_under_the_parent : (xs : List X) (j n : ℕ) → Rising xs j n → ((d : X) → before (get_or xs j d) (get_or xs ((j - 1) / 2) d) ≡ false) → Heaped before xs n
  heaped_under_the_parent xs j n h t = ⊎_elim (heaped_at_the_top xs j n h) (λ u. heaped_under_a_parent xs j ((j - 1) / 2) n (omega arith) (omega arith) t h) (which j 0)

  -- the entry at c has changed places with its parent at j, which it came before
  pub rising_one_up : IsStrictWeakOrder before → (xs ys : List X) (j c n : ℕ) → j * 2 + 1 ≤ c → c ≤ j * 2 + 2 → c < n → SwappedAt xs ys j c → ((d : X) → before (get_or xs c d) (get_or xs j d) ≡ true) → Rising xs c n → Rising ys j n
  unfolding Rising
  rising_one_up order xs ys j c n from to within s t h = (
    (
      λ p k d a b f u v. ⊎_elim
          (λ (e : p ≡ c). not_before before (s.2 k d v (omega arith)) (ap (λ m. get_or ys m d) e ∙ s.1 d) (h.0.1 j k d from to (omega arith) (omega arith) f))
          (λ w. let z : k ≡ c → ⊥ = omega arith in not_before before (s.2 k d v z) (s.2 p d u w) (h.0.0 p k d a b f w z)) (which p c),
      λ p k d a b f g i.
          let over = h.0.0 p j d a b (omega arith) (omega arith) (omega arith) in
          let same = s.2 p d (omega arith) (omega arith) in
          ⊎_elim
          (λ (e : k ≡ c). not_before before (ap (λ m. get_or ys m d) e ∙ s.1 d) same over)
          (λ w. not_before before (s.2 k d (omega arith) w) same (order.chain _ _ _ (h.0.0 j k d f g i (omega arith) w) over)) (which k c),
    ),
    λ k d a b f. ⊎_elim
        (λ (e : k ≡ c). not_before before (ap (λ m. get_or ys m d) e ∙ s.1 d) (s.0 d) (order.one_way _ _ (t d)))
        (λ w. not_before before (s.2 k d (omega arith) w) (s.0 d) (order.chain _ _ _ (h.0.0 j k d a b f (omega arith) w) (order.one_way _ _ (t d)))) (which k c),
  )

  -- an entry on its way up from the last place, now at j, and where it may stop
  pub record WayUp (xs : List X) (j n : ℕ) : Type 0 where
    pub rising : Rising xs j n
    pub done_at_the_top : j ≡ 0 → Heaped before xs n
    pub done_under_the_parent : ((d : X) → before (get_or xs j d) (get_or xs ((j - 1) / 2) d) ≡ false) → Heaped before xs n

  pub way_up : (xs : List X) (j n : ℕ) → Rising xs j n → WayUp xs j n
  way_up xs j n h = record { rising = h; done_at_the_top = heaped_at_the_top xs j n h; done_under_the_parent = heaped_under_the_parent xs j n h }
