-- Records of a table, and of its first records alone.
use Rattle.std.proofs.Common.{◌≡◌, ℕ, zero, suc, ◌<◌, ◌≤◌, List, [], ◌∷◌, length, get_or, take, sym, refl, ap, ◌∙◌, arith}
use Rattle.std.proofs.lemmas.List.{get_or-take, length-take, length-take-le}
use Rattle.front.specs.declared.label.Label.{Label}
use Rattle.front.specs.declared.leg.Leg.{Leg}
use Rattle.front.specs.Legs.{Stored}
use Rattle.front.specs.Labels.{Traces, start_label, one_label_more}

-- a table and its first n records
pub stored_take : {X : Type 0} (xs : List X) (n i : ℕ) (x : X) → i < n → n ≤ length xs → Stored xs i x → Stored (take n xs) i x
stored_take xs n i x lt le s = (omega (arith, length-take-le n xs le, lt), λ d. get_or-take n xs i d lt ∙ s.1 d)

pub take_stored : {X : Type 0} (xs : List X) (n i : ℕ) (x : X) → Stored (take n xs) i x → Stored xs i x
take_stored xs n i x s = let lt : i < n = omega (arith, length-take n xs, s.0) in (omega (arith, length-take n xs, s.0), λ d. sym (get_or-take n xs i d lt) ∙ s.1 d)

pub below_take : {X : Type 0} (xs : List X) (n i : ℕ) (x : X) → Stored (take n xs) i x → i < n
below_take xs n i x s = omega (arith, length-take n xs, s.0)

pub traces_take : {L : Type 0} (ls : List (Label L)) (n i : ℕ) (w : List (Leg L)) → Traces (take n ls) i w → Traces ls i w
traces_take ls n i₀ w₀ start_label = start_label
traces_take ls n i₀ w₀ (one_label_more j x y w p s lt f t) = one_label_more j x y w p (take_stored ls n j y s) lt (take_stored ls n y.before x f) (traces_take ls n y.before w t)

pub stored_some : {X : Type 0} (xs : List X) (i : ℕ) → i < length xs → (x : X) × Stored xs i x
stored_some [] i h = absurd (omega (arith, h))
stored_some (x ∷ xs) zero h = (x, (h, λ d. refl))
stored_some (x ∷ xs) (suc i) h = let (y, st) = stored_some xs i (omega (arith, h)) in (y, (h, λ d. st.1 d))

-- tables whose first n records are the same
pub stored_back : {X : Type 0} (xs ys : List X) (n i : ℕ) (x : X) → i < n → n ≤ length ys → take n xs ≡ take n ys → Stored xs i x → Stored ys i x
stored_back xs ys n i x lt le e s = (omega (arith, lt, le), λ d. sym (get_or-take n ys i d lt) ∙ ap (λ t. get_or t i d) (sym e) ∙ get_or-take n xs i d lt ∙ s.1 d)
