-- The two maps of the worked drives, as the tables that a table map is loaded from.
use Rattle.std.specs.Prelude.{ℕ, List, [], ◌∷◌, ◌++◌, ℤ, pos, negsuc}
use Rattle.maps.specs.Rows.{Rows}
use Rattle.maps.specs.Table.{table_rows}

-- the twelve entries of one junction with two roads at most: those of places 0 and 1, then x for the places without a road
abbrev pub twelve : {X : Type 0} → X → X → X → List X
twelve x a b = a ∷ b ∷ x ∷ x ∷ x ∷ x ∷ x ∷ x ∷ x ∷ x ∷ x ∷ x ∷ []

abbrev pub twelve_naturals : ℕ → ℕ → List ℕ
twelve_naturals a b = twelve 0 a b

abbrev pub twelve_integers : ℤ → ℤ → List ℤ
twelve_integers a b = twelve (pos 0) a b

-- the worked map:
-- from 0 to 1, 60 s, 300 Wh · from 0 to 2, 40 s, 700 Wh
-- from 1 to 3, 50 s, 400 Wh
-- from 2 to 3, 30 s, 250 Wh · from 2 to 1, 20 s, −200 Wh
abbrev pub worked_counts : List ℕ
worked_counts = 2 ∷ 1 ∷ 2 ∷ 0 ∷ []

abbrev pub worked_heads : List ℕ
worked_heads = twelve_naturals 1 2 ++ twelve_naturals 3 0 ++ twelve_naturals 3 1 ++ twelve_naturals 0 0

abbrev pub worked_times : List ℕ
worked_times = twelve_naturals 60 40 ++ twelve_naturals 50 0 ++ twelve_naturals 30 20 ++ twelve_naturals 0 0

abbrev pub worked_draws : List ℤ
worked_draws = twelve_integers (pos 300) (pos 700) ++ twelve_integers (pos 400) (pos 0) ++ twelve_integers (pos 250) (negsuc 199) ++ twelve_integers (pos 0) (pos 0)

abbrev pub worked_rows : Rows
worked_rows = table_rows worked_counts worked_heads worked_times worked_draws

-- the map with a loop: from 0 to 0, 5 s, −100 Wh · from 0 to 1, 10 s, 250 Wh
abbrev pub loop_counts : List ℕ
loop_counts = 2 ∷ 0 ∷ []

abbrev pub loop_heads : List ℕ
loop_heads = twelve_naturals 0 1 ++ twelve_naturals 0 0

abbrev pub loop_times : List ℕ
loop_times = twelve_naturals 5 10 ++ twelve_naturals 0 0

abbrev pub loop_draws : List ℤ
loop_draws = twelve_integers (negsuc 99) (pos 250) ++ twelve_integers (pos 0) (pos 0)

abbrev pub loop_rows : Rows
loop_rows = table_rows loop_counts loop_heads loop_times loop_draws
