-- What one step down a heap picks: the word of a private call of the queue.
use Rattle.std.specs.Prelude.{◌≡◌, ℕ, ◌+◌, ◌*◌, ◌<◌, ◌≤◌, Bool, cond, List, nat_lt, slice_index_or}

-- of the first n entries, the one at c is the lesser child of the one at `parent`: the right child only where it is there and comes before the left
pub record LesserChild {X : Type 0} (before : X → X → Bool) (xs : List X) (n parent c : ℕ) : Type 0 where
  pub from_the_left : parent * 2 + 1 ≤ c
  pub to_the_right : c ≤ parent * 2 + 2
  pub among_the_first : c < n
  pub right_only_if_first : (d : X) → c ≡ cond (nat_lt (parent * 2 + 2) n) (cond (before (slice_index_or xs (parent * 2 + 2) d) (slice_index_or xs (parent * 2 + 1) d)) (parent * 2 + 2) (parent * 2 + 1)) (parent * 2 + 1)
