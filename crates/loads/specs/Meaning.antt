-- What a load kind means: which values are loads, and its four answers.
use Rattle.std.specs.Prelude.{ℕ, Bool, Option}
use Rattle.maps.specs.declared.road.Road.{Road}

pub record Meaning (L : Type 0) : Type 0 where
  pub is_load : L → Bool
  -- whether a van can carry it
  pub admits : L → Bool
  -- whether the first is as good as the second
  pub as_good : L → L → Bool
  pub rank : L → ℕ
  -- what it becomes over a road, or none where it cannot be driven
  pub drive : L → Road → Option L
