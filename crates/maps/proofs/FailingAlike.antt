-- Checks that all fail alike: the first failure is that of any.
use Rattle.std.proofs.Common.{◌≡◌, ℕ, zero, suc, ◌<◌, Bool, true, false, cond, ◌⊎◌, List, length, get_or, Some, None, Option, sym, refl, ap, ap₂, ◌∙◌, inl, inr, ⊎_elim, arith}
use Rattle.std.specs.List.{list_any, Any}
use Rattle.std.proofs.lemmas.Bool.{cond-true, cond-false}
use Rattle.std.proofs.lemmas.Option.{none-some}
use Rattle.std.proofs.lemmas.Grind.{get_or_default_zero}
use Rattle.std.proofs.lemmas.List.Folds.{Any-from_list_any}
use Rattle.maps.specs.FirstFailure.{or_else, first_failure}
use Rattle.maps.specs.FirstFailureFound.{first_failure_each}
use Rattle.maps.proofs.Tested.{fails_where_not_any}

first_failure_nowhere : {X : Type 0} (f : ℕ → Option X) (n : ℕ) → ((i : ℕ) → i < n → f i ≡ None) → first_failure f n ≡ None
unfolding first_failure
first_failure_nowhere f zero h = refl
first_failure_nowhere f (suc n) h = ap₂ or_else (first_failure_nowhere f n (λ i l. h i (omega arith))) (h n (omega arith))

module _ {X : Type 0} (x : X) where
  none_or_that : (t : ℕ → Bool) (n : ℕ) → (first_failure (λ i. cond (t i) (Some x) None) n ≡ None) ⊎ (first_failure (λ i. cond (t i) (Some x) None) n ≡ Some x)
  unfolding first_failure
  none_or_that t zero = inl refl
  none_or_that t (suc n) = ⊎_elim (λ p. rw p (last (t n))) (λ p. inr (ap (λ o. or_else o (cond (t n) (Some x) None)) p)) (none_or_that t n)
    where
      last : (b : Bool) → (cond b (Some x) None ≡ None) ⊎ (cond b (Some x) None ≡ Some x)
      last true = inr refl
      last false = inl refl

  pub first_of_alike : (p : ℕ → Bool) (xs : List ℕ) → first_failure (λ i. cond (p (get_or xs i 0)) (Some x) None) (length xs) ≡ cond (list_any p xs) (Some x) None
  first_of_alike p xs = by (list_any p xs) refl
    where
      found : Any (λ y. p y ≡ true) xs → first_failure (λ i. cond (p (get_or xs i 0)) (Some x) None) (length xs) ≡ Some x
      found a = ⊎_elim (λ none. absurd (none-some x (sym (first_failure_each _ (length xs) a.0 a.2 none) ∙ cond-true _ _ _ (ap p (sym (get_or_default_zero xs a.0 a.1 a.2) ∙ a.3) ∙ a.4)))) (λ that. that) (none_or_that (λ i. p (get_or xs i 0)) (length xs))

      by : (b : Bool) → list_any p xs ≡ b → first_failure (λ i. cond (p (get_or xs i 0)) (Some x) None) (length xs) ≡ cond b (Some x) None
      by true e = found (Any-from_list_any p xs e)
      by false e = first_failure_nowhere _ (length xs) (λ i l. cond-false _ _ _ (fails_where_not_any p xs i 0 e l))
