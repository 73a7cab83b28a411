-- What is made of a capacity: accepted exactly from 1 to 100,000 watt-hours.
use Rattle.std.specs.Prelude.{◌≡◌, ℕ, ◌≤◌, Result, MatchResult}
use Rattle.refusals.specs.declared.refusal.Refusal.{Refusal}
use Rattle.refusals.specs.declared.refusal.Refusal.TheVariants.{CapacityOutOfRange}

-- n in range made something of the capacity n, and any other n was refused
abbrev pub AcceptsCapacity : {X : Type 0} → Result X Refusal → ℕ → (X → ℕ) → Type 0
AcceptsCapacity made n capacity_of =
    MatchResult made (λ x. (1 ≤ n) × (n ≤ 100000) × (capacity_of x ≡ n))
    (λ e. (e ≡ CapacityOutOfRange) × ((1 ≤ n) × (n ≤ 100000) → ⊥))
