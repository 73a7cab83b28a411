-- What a profile tells of a van that started with a charge: from its need on there is one, below there is none.
use Rattle.std.proofs.Common.{◌≡◌, ℕ, ◌+◌, ◌-◌, ◌<◌, ◌≤◌, min, leb, Some, None, ap, ◌∙◌, arith}
use Rattle.std.specs.Option.{option_map}
use Rattle.std.proofs.lemmas.Bool.{leb-true, le-leb, lt-leb, cond-true, cond-false}
use Rattle.loads.specs.declared.charge.Charge.{Charge}
use Rattle.loads.specs.declared.profile.Profile.{Profile}
use Rattle.loads.specs.Picked.{passed, from_mapped}
use Rattle.loads.specs.Charge.{charge}
use Rattle.loads.specs.Profile.{plain, charge_when_started_with}
use Rattle.charts.specs.Bridge.{read_at}

-- the charge now of a van that started with b, where it is here
abbrev pub charge_now : Profile → ℕ → ℕ
charge_now f b = min f.high (f.low + (b - f.need))

pub read_from_its_need_on : (f : Profile) (b : ℕ) → f.need ≤ b → read_at b f ≡ Some (charge (charge_now f b))
read_from_its_need_on f b h = ap (option_map charge) (cond-true (leb f.need b) (Some (charge_now f b)) None (le-leb f.need b h))

pub none_read_below_its_need : (f : Profile) (b : ℕ) → b < f.need → read_at b f ≡ None
none_read_below_its_need f b h = ap (option_map charge) (cond-false (leb f.need b) (Some (charge_now f b)) None (lt-leb f.need b h))

pub read_is_from_its_need_on : (f : Profile) (b : ℕ) (c : Charge) → read_at b f ≡ Some c → f.need ≤ b
read_is_from_its_need_on f b c e = let (n, p, r) = from_mapped charge (charge_when_started_with f b) c e in leb-true f.need b (passed (leb f.need b) _ n p).0

pub plain_profile_reads_each_charge : (m b : ℕ) → b ≤ m → read_at b (plain m) ≡ Some (charge b)
plain_profile_reads_each_charge m b h = read_from_its_need_on (plain m) b (omega arith) ∙ ap (λ (n : ℕ). Some (charge n)) (omega arith)
