-- The three comparisons decide whether one profile has at least as much as another at every starting charge.
use Rattle.std.proofs.Common.{◌≡◌, ℕ, ◌+◌, ◌-◌, ◌≤◌, min, Bool, true, leb, Decides, sym, ◌∙◌, arith}
use Rattle.std.proofs.lemmas.Bool.{leb-true, le-leb, cond-true}
use Rattle.loads.specs.declared.profile.Profile.{Profile}
use Rattle.std.proofs.lemmas.Option.{same_Some}
use Rattle.loads.specs.Picked.{passed}
use Rattle.loads.specs.Profile.{is_profile, AsGood, profiles}
use Rattle.loads.specs.ProfileLaws.{Bounds, NoWorse, bounds, within_bounds, both_and_no_worse, good}

no_worse_is_as_good : (f g : Profile) → NoWorse f g → AsGood f g
no_worse_is_as_good f g w b y few e =
    let p = passed (leb g.need b) _ y e in
    let q : g.need ≤ b = leb-true _ _ p.0 in
    let r : min g.high (g.low + (b - g.need)) ≡ y = same_Some _ _ p.1 in
    (min f.high (f.low + (b - f.need)), cond-true _ _ _ (le-leb f.need b (omega arith)), omega arith)

-- seen at two starting charges: g's need, and 100,000
as_good_is_no_worse : (f g : Profile) → Bounds f → Bounds g → AsGood f g → NoWorse f g
as_good_is_no_worse f g hf hg meant =
    let l = meant g.need (min g.high (g.low + (g.need - g.need))) (omega arith) (cond-true _ _ _ (le-leb g.need g.need (omega arith))) in
    let t = meant 100000 (min g.high (g.low + (100000 - g.need))) (omega arith) (cond-true _ _ _ (le-leb g.need 100000 (omega arith))) in
    let lp = passed (leb f.need g.need) _ l.0 l.1 in
    let tp = passed (leb f.need 100000) _ t.0 t.1 in
    let a : f.need ≤ g.need = leb-true _ _ lp.0 in
    let le : min f.high (f.low + (g.need - f.need)) ≡ l.0 = same_Some _ _ lp.1 in
    let te : min f.high (f.low + (100000 - f.need)) ≡ t.0 = same_Some _ _ tp.1 in
    let lg = l.2 in
    let tg = t.2 in
    record { needs_no_more = a; high_no_lower = omega arith; low_no_lower = omega arith }

-- of what the kind answers, r
pub as_good_decides_the_meaning : (m : ℕ) (f g : Profile) (r : Bool) → r ≡ (profiles m).as_good f g → Decides r ((is_profile f ≡ true) × (is_profile g ≡ true) × AsGood f g)
as_good_decides_the_meaning m f g r a = (
  (λ e. let b = both_and_no_worse m f g (sym a ∙ e) in (within_bounds f b.first, within_bounds g b.second, no_worse_is_as_good f g b.no_worse)),
  (λ h. let hf = bounds f h.0 in let hg = bounds g h.1 in a ∙ good m f g (record { first = hf; second = hg; no_worse = as_good_is_no_worse f g hf hg h.2 })),
)
