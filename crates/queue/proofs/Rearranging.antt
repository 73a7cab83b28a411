-- Entries that are written or taken out: what the list holds then.
use Rattle.std.proofs.Common.{◌≡◌, ℕ, zero, suc, ◌+◌, ◌-◌, ◌<◌, ◌≤◌, List, [], ◌∷◌, ◌++◌, length, get_or, take, drop, set, sym, refl, ap, ◌∙◌, subst, arith}
use Rattle.std.specs.List.{swap_remove}
use Rattle.std.specs.List.Sorted.{IsPermutation}
use Rattle.std.proofs.Math.Seq.{take-append_seam, drop-append_seam}
use Rattle.std.proofs.lemmas.List.{length-take-le, get_or-take, take_more_set, take-take, drop-set-lt, set-get_or}
use Rattle.std.proofs.lemmas.List.Sorted.{IsPermutation-trans, IsPermutation-sym, IsPermutation-to_front, IsPermutation-swap_remove, IsPermutation-cons}

module _ {X : Type 0} where
  -- the first n entries of a slice, put back before the others
  pub front : (n : ℕ) (ys rest : List X) → length ys ≡ n → take n (ys ++ rest) ≡ ys
  front n ys rest e = ap (λ k. take k (ys ++ rest)) (sym e) ∙ take-append_seam ys rest

  pub behind : (n : ℕ) (ys rest : List X) → length ys ≡ n → drop n (ys ++ rest) ≡ rest
  behind n ys rest e = ap (λ k. drop k (ys ++ rest)) (sym e) ∙ drop-append_seam ys rest

  take_of_set : (n : ℕ) (xs : List X) (i : ℕ) (y : X) → take n (set xs i y) ≡ set (take n xs) i y
  take_of_set zero [] i y = refl
  take_of_set (suc n) [] i y = refl
  take_of_set zero (x ∷ xs) zero y = refl
  take_of_set zero (x ∷ xs) (suc i) y = refl
  take_of_set (suc n) (x ∷ xs) zero y = refl
  take_of_set (suc n) (x ∷ xs) (suc i) y = ap (λ (l : List X). x ∷ l) (take_of_set n xs i y)

  -- an entry written behind the first n is one more of them
  pub adds_exactly_the_written : (n : ℕ) (xs ys : List X) (e : X) → n < length xs → IsPermutation (take (n + 1) (set xs n e)) ys → IsPermutation (e ∷ take n xs) ys
  adds_exactly_the_written n xs ys e lt moved =
      IsPermutation-trans (e ∷ take n xs) (take (n + 1) (set xs n e)) ys
      (subst (IsPermutation (e ∷ take n xs)) (sym (take_more_set xs n e lt)) (IsPermutation-sym _ _ (IsPermutation-to_front (take n xs) e))) moved

  -- the last of the first n entries, y, is written over the first, x, and the n - 1 change places
  module _ (n : ℕ) (xs : List X) (y : X) (some : 0 < n) (le : n ≤ length xs) (last : (d : X) → get_or xs (n - 1) d ≡ y) where
    filled_from_the_end : (x : X) → swap_remove (take n xs) 0 x ≡ take (n - 1) (set xs 0 y)
    filled_from_the_end x =
        let short = length-take-le n xs le in
        let is : length (take n xs) - 1 ≡ n - 1 = omega arith in
        let e : get_or (take n xs) (n - 1) x ≡ y = get_or-take n xs (n - 1) x (omega arith) ∙ last x in
        (λ i. take (is i) (set (take n xs) 0 (get_or (take n xs) (is i) x)))
        ∙ ap (λ (z : X). take (n - 1) (set (take n xs) 0 z)) e ∙ ap (take (n - 1)) (sym (take_of_set n xs 0 y)) ∙ take-take (n - 1) n (set xs 0 y) (omega arith)

    pub removes_exactly_the_overwritten : (ys : List X) → IsPermutation (take (n - 1) (set xs 0 y)) ys → (x : X) → ((d : X) → get_or xs 0 d ≡ x) → IsPermutation (take n xs) (x ∷ ys)
    removes_exactly_the_overwritten ys moved x first =
        let short = length-take-le n xs le in
        let taken = subst (λ (l : List X). IsPermutation (take n xs) (x ∷ l)) (filled_from_the_end x) (IsPermutation-swap_remove (take n xs) 0 x (omega arith) (sym (get_or-take n xs 0 x some ∙ first x))) in
        IsPermutation-trans (take n xs) (x ∷ take (n - 1) (set xs 0 y)) (x ∷ ys) taken (IsPermutation-cons x (take (n - 1) (set xs 0 y)) ys moved)

    unwritten : (m : ℕ) → n - 1 ≡ m → drop (n - 1) (set xs 0 y) ≡ drop (n - 1) xs
    unwritten zero z = ap (drop (n - 1)) (ap (set xs 0) (sym (last y) ∙ ap (λ i. get_or xs i y) z) ∙ set-get_or xs 0 y)
    unwritten (suc m) z = drop-set-lt (n - 1) xs 0 y (omega arith)

    pub rest_untouched_from_the_last : drop (n - 1) (set xs 0 y) ≡ drop (n - 1) xs
    rest_untouched_from_the_last = unwritten (n - 1) refl
