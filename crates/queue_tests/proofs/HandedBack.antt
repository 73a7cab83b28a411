-- A slice that one queue hands back and another is made over: what it holds at the end.
use Rattle.std.proofs.Common.{◌≡◌, ℕ, ◌+◌, ◌<◌, min, Bool, false, List, ◌∷◌, length, take, drop, IsSomeAnd, Some, None, Option, sym, ap, ◌∙◌, subst, arith, MatchOption}
use Rattle.std.specs.List.Sorted.{IsPermutation}
use Rattle.std.proofs.lemmas.List.{drop-drop}
use Rattle.std.proofs.lemmas.List.Sorted.{IsPermutation-trans, IsPermutation-sym}
use Rattle.std.proofs.ByRecursion.{all_shuffled}
use Rattle.queue.specs.declared.heap.Heap.{Heap}
use Rattle.queue.specs.Heaps.{Heaped, Least}
use Rattle.queue.specs.Waiting.{slots, waiting, Pushed, Popped}

module _ {X : Type 0} (before : X → X → Bool) where
  heaped_of_equal : {xs ys : List X} {m n : ℕ} → xs ≡ ys → m ≡ n → Heaped before xs m → Heaped before ys n
  heaped_of_equal {xs} {ys} {m} {n} p q h = subst (λ (l : List X). Heaped before l n) p (subst (λ (k : ℕ). Heaped before xs k) q h)

  pub exchanged_for_the_least : (n : ℕ) (ws zs : List X) (e : X) (h k l m : Heap X) (popped : Option X) → n < length ws
      → slots h ≡ ws → h.len ≡ min n (length ws) → length (slots k) ≡ length (slots h) → Pushed before h e k
      → slots l ≡ slots k → l.len ≡ min k.len (length (slots k)) → MatchOption popped ((l.len ≡ 0) × (m ≡ l)) (λ x. Popped before l x m) → zs ≡ slots m
      → record { exchanges_one_entry : IsSomeAnd popped (λ x. IsPermutation (e ∷ take n ws) (x ∷ take n zs)); none_comes_before_it : IsSomeAnd popped (λ x. Heaped before ws n → Least before x (e ∷ take n ws)); keeps_heap_order : Heaped before ws n → Heaped before zs n; rest_untouched : drop (n + 1) zs ≡ drop (n + 1) ws }
  exchanged_for_the_least n ws zs e h k l m None room hw hn kn p lw ln (none, same) zw = absurd (omega (arith, none, p.counts_one_more, p.had_room))
  exchanged_for_the_least n ws zs e h k l m (Some x) room hw hn kn p lw ln q zw =
      let long = ap length hw in
      let h_len : h.len ≡ n = omega (arith, long) in
      let l_len : l.len ≡ k.len = omega (arith, long, p.counts_one_more) in
      let m_len : m.len ≡ n = omega (arith, p.counts_one_more, q.counts_one_fewer) in
      let k_len : k.len ≡ n + 1 = omega (arith, p.counts_one_more) in
      let added = subst (λ (v : List X). IsPermutation (e ∷ v) (waiting k)) (λ i. take (h_len i) (hw i)) p.adds_exactly_the_entry in
      let between : waiting l ≡ waiting k = λ i. take (l_len i) (lw i) in
      let all = subst (λ (v : List X). IsPermutation (e ∷ take n ws) v) (sym between) added in
      let behind_popped : drop n zs ≡ drop n (slots l) = (λ i. drop (sym m_len i) (zw i)) ∙ q.rest_untouched ∙ ap (λ j. drop j (slots l)) m_len in
      let behind_pushed : drop (n + 1) (slots k) ≡ drop (n + 1) (slots h) = ap (λ j. drop j (slots k)) (sym k_len) ∙ p.rest_untouched ∙ ap (λ j. drop j (slots h)) k_len in
      record {
        exchanges_one_entry = IsPermutation-trans (e ∷ take n ws) (waiting l) (x ∷ take n zs) all (subst (λ (v : List X). IsPermutation (waiting l) (x ∷ v)) (λ i. take (m_len i) (sym zw i)) q.removes_exactly_the_answer);
        none_comes_before_it = λ heaped. all_shuffled (λ y. before y x ≡ false) (waiting l) (e ∷ take n ws) (IsPermutation-sym (e ∷ take n ws) (waiting l) all) (q.was_first.none_comes_before_it (heaped_of_equal (sym lw) (sym l_len) (p.keeps_heap_order (heaped_of_equal (sym hw) (sym h_len) heaped))));
        keeps_heap_order = λ heaped. heaped_of_equal (sym zw) m_len (q.keeps_heap_order (heaped_of_equal (sym lw) (sym l_len) (p.keeps_heap_order (heaped_of_equal (sym hw) (sym h_len) heaped))));
        rest_untouched = sym (drop-drop 1 n zs) ∙ ap (drop 1) behind_popped ∙ drop-drop 1 n (slots l) ∙ ap (drop (n + 1)) lw ∙ behind_pushed ∙ ap (drop (n + 1)) hw;
      }
