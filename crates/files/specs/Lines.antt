-- How a file falls into lines and a line into fields: the pieces between the places where one byte stands.
use Rattle.std.specs.Prelude.{ℕ, List, ◌==◌}
use Rattle.std.specs.List.{slice_split}

-- the pieces between the bytes b: one more than there are bytes b
abbrev pub pieces : ℕ → List ℕ → List (List ℕ)
pieces b xs = slice_split (λ x. x == b) xs
