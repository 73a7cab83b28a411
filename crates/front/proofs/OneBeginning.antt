-- The front has one order: two beginnings of it agree as far as both go.
use Rattle.std.proofs.Common.{◌≡◌, ℕ, zero, suc, ◌<◌, ◌≤◌, ◌⊎◌, List, length, get_or, sym, ap, ◌∙◌, subst, inl, inr, arith}
use Rattle.std.specs.List.{ContainsAt as Has}
use Rattle.std.proofs.ByRecursion.{has_get_or}
use Rattle.std.proofs.lemmas.List.{same_lists}
use Rattle.std.proofs.lemmas.Bool.{cases_lt, cases_order}
use Rattle.front.specs.Walks.{Query, Valid, Arrival, departure}
use Rattle.front.specs.Front.{Before, FrontBegins, IsFront}
use Rattle.front.proofs.Order.{not_before_itself, before_is_transitive, before_same_or_after}
use Rattle.front.proofs.Walks.{reached_is_a_load}

module _ {L : Type 0} (q : Query L) (valid : Valid q) where
  -- where two beginnings agree below i, the one's arrival i is not before the other's
  agreeing_below_is_not_before : (xs ys : List (Arrival L)) → FrontBegins q xs → FrontBegins q ys → (i : ℕ) (d : Arrival L) → i < length xs → i < length ys
      → ((j : ℕ) → j < i → get_or xs j d ≡ get_or ys j d) → Before q.kind (get_or xs i d) (get_or ys i d) → ⊥
  agreeing_below_is_not_before xs ys f g i d h k same p = go (g.unskipped (get_or xs i d) (get_or ys i d) (f.unbeaten (get_or xs i d) (has_get_or xs i d h)) (has_get_or ys i d k) p)
    where
      at : (j : ℕ) → j < length ys → get_or ys j d ≡ get_or xs i d → (j ≡ i) ⊎ ((j < i) ⊎ (i < j)) → ⊥
      at j l e (inl r) = not_before_itself q.kind (get_or ys i d) (subst (λ (a : Arrival L). Before q.kind a (get_or ys i d)) (sym e ∙ ap (λ (n : ℕ). get_or ys n d) r) p)
      at j l e (inr (inl r)) = not_before_itself q.kind (get_or xs i d) (subst (λ (a : Arrival L). Before q.kind a (get_or xs i d)) (same j r ∙ e) (f.ordered j i d r h))
      at j l e (inr (inr r)) = not_before_itself q.kind (get_or ys i d) (before_is_transitive q.kind (get_or ys i d) (get_or ys j d) (get_or ys i d) (g.ordered i j d r l) (subst (λ (a : Arrival L). Before q.kind a (get_or ys i d)) (sym e) p))

      go : Has ys (get_or xs i d) → ⊥
      go (j, l, e) = at j l (e d) (cases_order j i)

  beginnings_agree_below : (xs ys : List (Arrival L)) → FrontBegins q xs → FrontBegins q ys → (n j : ℕ) (d : Arrival L) → j < n → j < length xs → j < length ys → get_or xs j d ≡ get_or ys j d
  beginnings_agree_below xs ys f g zero j d l h k = absurd (omega arith)
  beginnings_agree_below xs ys f g (suc n) j d l h k = go (λ i r. beginnings_agree_below xs ys f g n i d (omega arith) (omega arith) (omega arith))
      (before_same_or_after q.kind valid.lawful (get_or xs j d) (get_or ys j d) (reached_is_a_load q valid (get_or xs j d) (f.unbeaten (get_or xs j d) (has_get_or xs j d h)).reached) (reached_is_a_load q valid (get_or ys j d) (g.unbeaten (get_or ys j d) (has_get_or ys j d k)).reached))
    where
      go : ((i : ℕ) → i < j → get_or xs i d ≡ get_or ys i d) → Before q.kind (get_or xs j d) (get_or ys j d) ⊎ ((get_or xs j d ≡ get_or ys j d) ⊎ Before q.kind (get_or ys j d) (get_or xs j d)) → get_or xs j d ≡ get_or ys j d
      go same (inl p) = absurd (agreeing_below_is_not_before xs ys f g j d h k same p)
      go same (inr (inl e)) = e
      go same (inr (inr p)) = absurd (agreeing_below_is_not_before ys xs g f j d k h (λ i r. sym (same i r)) p)

  pub beginnings_agree : (xs ys : List (Arrival L)) → FrontBegins q xs → FrontBegins q ys → (i : ℕ) (d : Arrival L) → i < length xs → i < length ys → get_or xs i d ≡ get_or ys i d
  beginnings_agree xs ys f g i d h k = beginnings_agree_below xs ys f g (suc i) i d (omega arith) h k

  pub one_beginning_of_each_length : (xs ys : List (Arrival L)) → FrontBegins q xs → FrontBegins q ys → length xs ≡ length ys → xs ≡ ys
  one_beginning_of_each_length xs ys f g e = same_lists xs ys e (λ i d h. beginnings_agree xs ys f g i d h (omega arith))

  pub no_beginning_is_longer_than_the_front : (xs ys : List (Arrival L)) → FrontBegins q xs → IsFront q ys → length xs ≤ length ys
  no_beginning_is_longer_than_the_front xs ys f g = go (cases_lt (length ys) (length xs))
    where
      next : Arrival L
      next = get_or xs (length ys) (departure q)

      in_the_front : length ys < length xs → Has ys next → ⊥
      in_the_front l (j, h, e) = not_before_itself q.kind next (subst (λ (a : Arrival L). Before q.kind a next) (beginnings_agree xs ys f g.begins j (departure q) (omega arith) h ∙ e (departure q)) (f.ordered j (length ys) (departure q) h l))

      go : (length ys < length xs) ⊎ (length xs ≤ length ys) → length xs ≤ length ys
      go (inl l) = absurd (in_the_front l (g.all next (f.unbeaten next (has_get_or xs (length ys) (departure q) l))))
      go (inr l) = l

  pub one_front : (xs ys : List (Arrival L)) → IsFront q xs → IsFront q ys → xs ≡ ys
  one_front xs ys f g = one_beginning_of_each_length xs ys f.begins g.begins (omega (arith, no_beginning_is_longer_than_the_front xs ys f.begins g, no_beginning_is_longer_than_the_front ys xs g.begins f))
