-- What a queue holds once an entry was written and sifted.
use Rattle.std.proofs.Common.{◌≡◌, ℕ, ◌+◌, ◌-◌, ◌<◌, ◌≤◌, Bool, List, ◌∷◌, ◌++◌, length, get_or, take, drop, set, sym, ap, ◌∙◌, subst, arith, length-set}
use Rattle.std.specs.List.Sorted.{IsPermutation}
use Rattle.std.proofs.lemmas.List.{length-take-le, drop-set-lt}
use Rattle.queue.specs.declared.heap.Heap.{Heap}
use Rattle.queue.specs.Heaps.{HeapedFrom, Heaped}
use Rattle.queue.specs.Waiting.{slots, waiting, InHeapOrder, First, Pushed, Popped}
use Rattle.queue.proofs.HeapOrder.{heaped_after_write_behind, heaped_after_write_first, sifted_in_front}
use Rattle.queue.proofs.Rearranging.{front, behind, adds_exactly_the_written, removes_exactly_the_overwritten, rest_untouched_from_the_last}

module _ {X : Type 0} (before : X → X → Bool) where
  ordered : (k : Heap X) (n : ℕ) (l : List X) → slots k ≡ l → k.len ≡ n → Heaped before l n → InHeapOrder before k
  ordered k n l is count h = subst (λ xs. Heaped before xs k.len) (sym is) (subst (λ i. Heaped before l i) (sym count) h)

  -- e was written behind those that wait, at `at`, and the first n + 1 were sifted into ys
  pub pushed : (h k : Heap X) (e : X) (n at : ℕ) (ys : List X)
      → IsPermutation (take (n + 1) (set (slots h) at e)) ys
      → (Heaped before (take (n + 1) (set (slots h) at e)) (length (take (n + 1) (set (slots h) at e)) - 1) → Heaped before ys (length (take (n + 1) (set (slots h) at e))))
      → length ys ≡ length (take (n + 1) (set (slots h) at e))
      → slots k ≡ ys ++ drop (n + 1) (set (slots h) at e)
      → h.len < length (slots h) → n ≡ h.len → at ≡ h.len → k.len ≡ n + 1
      → Pushed before h e k
  pushed h k e n at ys moved order same is room n_is at_is count =
      let xs = slots h in
      let ws = set xs at e in
      let here : at ≡ n = omega arith in
      let lt : n < length xs = omega arith in
      let short : length (take (n + 1) ws) ≡ n + 1 = length-take-le (n + 1) ws (omega (arith, length-set xs at e)) in
      let one_fewer : n + 1 - 1 ≡ n = omega arith in
      let long : length ys ≡ n + 1 = same ∙ short in
      let first_waiting : waiting k ≡ ys = (λ i. take (count i) (is i)) ∙ front (n + 1) ys (drop (n + 1) ws) long in
      record {
        had_room = room;
        counts_one_more = omega arith;
        adds_exactly_the_entry = subst (IsPermutation (e ∷ waiting h)) (sym first_waiting) (subst (λ i. IsPermutation (e ∷ take i xs) ys) n_is (adds_exactly_the_written n xs ys e lt (subst (λ i. IsPermutation (take (n + 1) (set xs i e)) ys) here moved)));
        rest_untouched = (λ i. drop (count i) (is i)) ∙ behind (n + 1) ys (drop (n + 1) ws) long ∙ drop-set-lt (n + 1) xs at e (omega arith) ∙ ap (λ m. drop m xs) (sym count);
        keeps_heap_order = λ o. ordered k (n + 1) (ys ++ drop (n + 1) ws) is count (sifted_in_front before 0 n (n + 1) ws ys long (omega arith) (rw (short, one_fewer) at order) (subst (λ i. HeapedFrom before 0 (set xs i e) n) (sym here) (heaped_after_write_behind before xs n e (subst (λ i. Heaped before xs i) (sym n_is) o))));
      }

  -- y, the last of those that wait, was written over x, and the first m were sifted into ys
  pub popped : (h k : Heap X) (x y : X) (m : ℕ) (ys : List X)
      → First before h x
      → IsPermutation (take m (set (slots h) 0 y)) ys
      → (HeapedFrom before 1 (take m (set (slots h) 0 y)) (length (take m (set (slots h) 0 y))) → Heaped before ys (length (take m (set (slots h) 0 y))))
      → length ys ≡ length (take m (set (slots h) 0 y))
      → slots k ≡ ys ++ drop m (set (slots h) 0 y)
      → ((d : X) → get_or (slots h) m d ≡ y) → h.len ≡ m + 1 → k.len ≡ m
      → Popped before h x k
  popped h k x y m ys taken moved order same is last one_more count =
      let xs = slots h in
      let n = h.len in
      let ws = set xs 0 y in
      let less : n - 1 ≡ m = omega arith in
      let some : 0 < n = omega arith in
      let last_of : (d : X) → get_or xs (n - 1) d ≡ y = λ d. ap (λ i. get_or xs i d) less ∙ last d in
      let short : length (take m ws) ≡ m = length-take-le m ws (omega (arith, h.within, length-set xs 0 y)) in
      let long : length ys ≡ m = same ∙ short in
      let first_waiting : waiting k ≡ ys = (λ i. take (count i) (is i)) ∙ front m ys (drop m ws) long in
      record {
        was_first = taken;
        counts_one_fewer = omega arith;
        removes_exactly_the_answer = subst (λ (l : List X). IsPermutation (take n xs) (x ∷ l)) (sym first_waiting) (removes_exactly_the_overwritten n xs y some h.within last_of ys (rw less moved) x taken.in_first_place);
        rest_untouched = (λ i. drop (count i) (is i)) ∙ behind m ys (drop m ws) long ∙ ap (λ i. drop i ws) (sym less) ∙ rest_untouched_from_the_last n xs y some h.within last_of ∙ (λ i. drop ((less ∙ sym count) i) xs);
        keeps_heap_order = λ o. ordered k m (ys ++ drop m ws) is count (sifted_in_front before 1 m m ws ys long (omega arith) (rw short at order) (heaped_after_write_first before xs n m y (omega arith) o));
      }
