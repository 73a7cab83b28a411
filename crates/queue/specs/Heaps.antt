-- A binary heap, least entry first, in the first places of a list: the children of the entry at p stand at p * 2 + 1 and p * 2 + 2.
use Rattle.std.specs.Prelude.{◌≡◌, ℕ, ◌+◌, ◌*◌, ◌<◌, ◌≤◌, Bool, false, List, slice_index_or}
use Rattle.std.specs.List.{AllByRecursion}

module _ {X : Type 0} (before : X → X → Bool) where
  -- of the first n entries, none comes before its parent, where the parent stands at `low` or later
  unfoldable pub HeapedFrom : ℕ → List X → ℕ → Type 0
  HeapedFrom low xs n = (parent child : ℕ) (d : X) → low ≤ parent → parent * 2 + 1 ≤ child → child ≤ parent * 2 + 2 → child < n → before (slice_index_or xs child d) (slice_index_or xs parent d) ≡ false

  -- of the first n entries, none comes before its parent
  abbrev pub Heaped : List X → ℕ → Type 0
  Heaped xs n = HeapedFrom 0 xs n

  -- no entry of xs comes before x
  abbrev pub Least : X → List X → Type 0
  Least x xs = AllByRecursion (λ y. before y x ≡ false) xs
