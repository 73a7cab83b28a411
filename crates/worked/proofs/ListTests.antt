-- Tests of every element of a list, of some element, and of every number below a bound.
use Rattle.std.proofs.Common.{◌≡◌, ℕ, zero, suc, ◌<◌, ◌≤◌, Bool, true, false, ◌&&◌, ◌||◌, ◌⊎◌, List, [], ◌∷◌, length, get_or, refl, subst, inl, inr, arith}
use Rattle.std.specs.List.{ContainsAt as Has}
use Rattle.std.proofs.lemmas.Bool.{and_parts, or_cases, cases_lt, false≢true}

abbrev pub each : {X : Type 0} → (X → Bool) → List X → Bool
each p [] = true
each p (x ∷ xs) = p x && each p xs

abbrev pub some : {X : Type 0} → (X → Bool) → List X → Bool
some p [] = false
some p (x ∷ xs) = p x || some p xs

abbrev pub below : (ℕ → Bool) → ℕ → Bool
below p zero = true
below p (suc n) = p n && below p n

pub each_passes : {X : Type 0} (p : X → Bool) (xs : List X) → each p xs ≡ true → (i : ℕ) (d : X) → i < length xs → p (get_or xs i d) ≡ true
each_passes p [] e i d h = absurd (omega (arith, h))
each_passes p (x ∷ xs) e zero d h = (and_parts (p x) (each p xs) e).0
each_passes p (x ∷ xs) e (suc i) d h = each_passes p xs (and_parts (p x) (each p xs) e).1 i d (omega (arith, h))

pub some_passes : {X : Type 0} (p : X → Bool) (xs : List X) → some p xs ≡ true → (x : X) × Has xs x × (p x ≡ true)
some_passes p [] e = absurd (false≢true e)
some_passes {X} p (x ∷ xs) e = go (some_passes p xs) (or_cases (p x) (some p xs) e)
  where
    go : (some p xs ≡ true → (y : X) × Has xs y × (p y ≡ true)) → (p x ≡ true) ⊎ (some p xs ≡ true) → (y : X) × Has (x ∷ xs) y × (p y ≡ true)
    go later (inl t) = (x, (0, omega arith, λ d. refl), t)
    go later (inr t) = let (y, (k, h, s), r) = later t in (y, (suc k, omega (arith, h), λ d. s d), r)

pub below_passes : (p : ℕ → Bool) (n k : ℕ) → below p n ≡ true → k < n → p k ≡ true
below_passes p zero k e h = absurd (omega arith)
below_passes p (suc n) k e h = go (below_passes p n k (and_parts (p n) (below p n) e).1) (cases_lt k n)
  where
    parts : (p n ≡ true) × (below p n ≡ true)
    parts = and_parts (p n) (below p n) e

    go : (k < n → p k ≡ true) → (k < n) ⊎ (n ≤ k) → p k ≡ true
    go lower (inl l) = lower l
    go lower (inr l) = let s : n ≡ k = omega arith in subst (λ (i : ℕ). p i ≡ true) s parts.0
