-- The order in which candidates leave the queue: time rising, then rank falling, then junction rising.
use Rattle.std.specs.Prelude.{ℕ, Bool, true, false, cond, nat_lt}
use Rattle.promises.specs.declared.candidate.Candidate.{Candidate}

-- whether x comes before y by a number that rises; where it is equal, by the test after it
abbrev pub rising : {X : Type 0} → (X → ℕ) → (X → X → Bool) → X → X → Bool
rising f after x y = cond (nat_lt (f x) (f y)) true (cond (nat_lt (f y) (f x)) false (after x y))

abbrev pub falling : {X : Type 0} → (X → ℕ) → (X → X → Bool) → X → X → Bool
falling f after x y = cond (nat_lt (f y) (f x)) true (cond (nat_lt (f x) (f y)) false (after x y))

abbrev pub leaves_before : {L : Type 0} → Candidate L → Candidate L → Bool
leaves_before = rising (λ c. c.label.arrival.time) (falling (λ c. c.rank) (rising (λ c. c.label.arrival.junction) (λ _ _. false)))
