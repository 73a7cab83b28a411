-- The profile kind: a load tells, for every starting charge together, what charge a van has now.
use Rattle.std.specs.Prelude.{◌≡◌, ℕ, suc, ◌+◌, ◌-◌, ◌*◌, ◌≤◌, min, Bool, cond, ◌&&◌, ℤ, pos, negsuc, Some, None, Option, nat_le}
use Rattle.loads.specs.declared.profile.Profile.{Profile}
use Rattle.loads.specs.Meaning.{Meaning}

abbrev pub profile : ℕ → ℕ → ℕ → Profile
profile a p h = record { need = a; low = p; high = h }

-- before any road: whoever started with a charge up to the capacity m still has it
abbrev pub plain : ℕ → Profile
plain m = profile 0 0 m

-- the charge now of a van that started with b: none where b is less than the need, else the smaller of high and low + b − need
abbrev pub charge_when_started_with : Profile → ℕ → Option ℕ
charge_when_started_with f b = cond (nat_le f.need b) (Some (min f.high (f.low + (b - f.need)))) None

-- three numbers are a profile when low ≤ high ≤ 100,000 and need + high − low ≤ 100,000
abbrev pub is_profile : Profile → Bool
is_profile f = nat_le f.low f.high && (nat_le f.high 100000 && nat_le (f.need + (f.high - f.low)) 100000)

-- for each starting charge up to 100,000 at which g has a charge, f has at least as much
abbrev pub AsGood : Profile → Profile → Type 0
AsGood f g = (b y : ℕ) → b ≤ 100000 → charge_when_started_with g b ≡ Some y → (x : ℕ) × (charge_when_started_with f b ≡ Some x) × (y ≤ x)

-- the three comparisons that decide it: f needs no more, its high is no lower, and neither is its low at g's need
abbrev pub three_comparisons : Profile → Profile → Bool
three_comparisons f g = nat_le f.need g.need && (nat_le g.high f.high && nat_le (g.low + f.need) (f.low + g.need))

-- what a profile becomes over a draw c, under the capacity m: none where high is less than c,
-- else need grows by c − low where that is above 0, low falls by c to 0 at least, high falls by c, and both stay within m
abbrev pub over_draw : ℕ → Profile → ℤ → Option Profile
over_draw m f (pos c) = cond (nat_le c f.high) (Some (profile (f.need + (c - f.low)) (min m (f.low - c)) (min m (f.high - c)))) None
over_draw m f (negsuc c) = Some (profile f.need (min m (f.low + suc c)) (min m (f.high + suc c)))

-- a lower need first, then a higher high, then a higher low
abbrev pub rank_of : Profile → ℕ
rank_of f = ((100000 - f.need) * 100001 + f.high) * 100001 + f.low

-- the profile kind of the capacity m
abbrev pub profiles : ℕ → Meaning Profile
profiles m = record {
  is_load = is_profile;
  admits = λ f. is_profile f && (nat_le f.high m && nat_le (f.need + (f.high - f.low)) m);
  as_good = λ f g. is_profile f && (is_profile g && three_comparisons f g);
  rank = λ f. cond (is_profile f) (rank_of f) 0;
  drive = λ f e. cond (is_profile f) (over_draw m f e.draw) None;
}
