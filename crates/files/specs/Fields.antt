-- The fields of a line.
use Rattle.std.specs.Prelude.{ℕ, Bool, not, ◌&&◌, List, length, ◌==◌}
use Rattle.std.specs.List.{list_all}

abbrev pub none_empty : List (List ℕ) → Bool
none_empty ps = list_all (λ p. not (length p == 0)) ps

-- so many fields, and none is empty
abbrev pub parted : ℕ → List (List ℕ) → Bool
parted n ps = length ps == n && none_empty ps
