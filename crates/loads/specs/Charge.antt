-- The charge kind: a load is the charge of a battery in watt-hours.
use Rattle.std.specs.Prelude.{ℕ, suc, ◌+◌, ◌-◌, min, cond, ◌&&◌, ℤ, pos, negsuc, Some, None, Option, nat_le}
use Rattle.std.specs.Option.{option_map}
use Rattle.loads.specs.declared.charge.Charge.{Charge}
use Rattle.loads.specs.Meaning.{Meaning}

-- what is left of b over a draw, under the capacity m: none where b is less than the draw, else the smaller of m and b − draw
abbrev pub spent : ℕ → ℕ → ℤ → Option ℕ
spent m b (pos c) = cond (nat_le c b) (Some (min m (b - c))) None
spent m b (negsuc c) = Some (min m (b + suc c))

-- by how much b falls short of a draw
abbrev pub shortage : ℕ → ℤ → ℕ
shortage b (pos c) = c - b
shortage b (negsuc c) = 0

abbrev pub charge : ℕ → Charge
charge b = record { level = b }

-- the charge kind of the capacity m
abbrev pub charges : ℕ → Meaning Charge
charges m = record {
  is_load = λ b. nat_le b.level 100000;
  admits = λ b. nat_le b.level m;
  as_good = λ b c. nat_le b.level 100000 && nat_le c.level b.level;
  rank = λ b. cond (nat_le b.level 100000) b.level 0;
  drive = λ b e. cond (nat_le b.level 100000) (option_map charge (spent m b.level e.draw)) None;
}
