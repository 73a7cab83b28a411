-- Tests of the elements of a list: what is known where one passes, or none.
use Rattle.std.proofs.Common.{◌≡◌, ℕ, zero, suc, ◌<◌, Bool, true, false, cond, ltb, ◌||◌, List, [], ◌∷◌, length, get_or, set, Some, None, sym, refl, ◌∙◌, arith}
use Rattle.std.specs.List.{position, position_or_len, list_any}
use Rattle.std.proofs.lemmas.Option.{none-some}
use Rattle.std.proofs.lemmas.List.Folds.{list_any_at}
use Rattle.std.proofs.lemmas.List.Sums.{fails_before_first}
use Rattle.std.proofs.lemmas.Bool.{ltb-false, true≢false}

module _ {X : Type 0} (p : X → Bool) where
  -- where none was found, every element fails
  pub fails_where_none : (xs : List X) (i : ℕ) (d : X) → position p xs ≡ None → i < length xs → p (get_or xs i d) ≡ false
  fails_where_none xs i d e l = by (ltb (position_or_len p xs) (length xs)) refl e
    where
      by : (t : Bool) → ltb (position_or_len p xs) (length xs) ≡ t → cond t (Some (position_or_len p xs)) None ≡ None → p (get_or xs i d) ≡ false
      by true q n = absurd (none-some _ (sym n))
      by false q n = let past = ltb-false _ _ q in fails_before_first p xs i d (omega arith)

  pub fails_where_not_any : (xs : List X) (i : ℕ) (d : X) → list_any p xs ≡ false → i < length xs → p (get_or xs i d) ≡ false
  fails_where_not_any xs i d e l = by (p (get_or xs i d)) refl
    where
      by : (t : Bool) → p (get_or xs i d) ≡ t → p (get_or xs i d) ≡ false
      by true q = absurd (true≢false (sym (list_any_at p xs i d l q) ∙ e))
      by false q = q

  pub not_any_where_all_fail : (xs : List X) (d : X) → ((i : ℕ) → i < length xs → p (get_or xs i d) ≡ false) → list_any p xs ≡ false
  not_any_where_all_fail [] d h = refl
  not_any_where_all_fail (x ∷ xs) d h = rw (h 0 (omega arith)) (not_any_where_all_fail xs d (λ i l. h (suc i) (omega arith)))

  -- an element that fails is written over
  pub any_set_new : (xs : List X) (i : ℕ) (x d : X) → i < length xs → p (get_or xs i d) ≡ false → list_any p (set xs i x) ≡ (p x || list_any p xs)
  any_set_new [] i x d l h = absurd (omega arith)
  any_set_new (y ∷ ys) zero x d l h = rw h
  any_set_new (y ∷ ys) (suc i) x d l h = rw (any_set_new ys i x d (omega arith) h) (swap (p y) (p x) (list_any p ys))
    where
      swap : (a b c : Bool) → (a || (b || c)) ≡ (b || (a || c))
      swap true true c = refl
      swap true false c = refl
      swap false b c = refl

  -- an element is written over by one that fails or passes as it did
  pub any_set_alike : (xs : List X) (i : ℕ) (x d : X) → i < length xs → p x ≡ p (get_or xs i d) → list_any p (set xs i x) ≡ list_any p xs
  any_set_alike [] i x d l h = absurd (omega arith)
  any_set_alike (y ∷ ys) zero x d l h = rw h
  any_set_alike (y ∷ ys) (suc i) x d l h = rw (any_set_alike ys i x d (omega arith) h)
