-- The profile kind keeps the laws.
use Rattle.std.specs.Prelude.{◌≡◌, ℕ, suc, ◌+◌, ◌-◌, ◌^◌, ◌<◌, ◌≤◌, min, Bool, true, false, cond, ℤ, pos, negsuc, Some, None, nat_le, refl}
use Rattle.std.proofs.Common.{sym, ap, subst, ◌∙◌, arith}
use Rattle.std.proofs.lemmas.Bool.{leb-true, le-leb, and_parts, and_from, and_left, and_right, cond-true, cond-false, cond_both}
use Rattle.maps.specs.declared.road.Road.{Road}
use Rattle.loads.specs.declared.profile.Profile.{Profile}
use Rattle.loads.specs.Laws.{Laws}
use Rattle.loads.specs.Profile.{profile, is_profile, three_comparisons, over_draw, rank_of, profiles}
use Rattle.std.proofs.lemmas.Option.{same_Some}
use Rattle.loads.specs.Picked.{passed}

-- what the test of a profile tells
pub record Bounds (f : Profile) : Type 0 where
  pub low_at_most_high : f.low ≤ f.high
  pub high_at_most_100000 : f.high ≤ 100000
  pub need_and_span_at_most_100000 : f.need + (f.high - f.low) ≤ 100000

-- what the three comparisons tell
pub record NoWorse (f g : Profile) : Type 0 where
  pub needs_no_more : f.need ≤ g.need
  pub high_no_lower : g.high ≤ f.high
  pub low_no_lower : g.low + f.need ≤ f.low + g.need

-- what as good tells
pub record BothAndNoWorse (f g : Profile) : Type 0 where
  pub first : Bounds f
  pub second : Bounds g
  pub no_worse : NoWorse f g

-- what a drive from f to f' under the capacity m tells of f'
pub record AfterDrive (m : ℕ) (f f' : Profile) : Type 0 where
  pub low_at_most_high : f'.low ≤ f'.high
  pub high_at_most_capacity : f'.high ≤ m
  pub need_and_span_not_grown : f'.need + (f'.high - f'.low) ≤ f.need + (f.high - f.low)

pub bounds : (f : Profile) → is_profile f ≡ true → Bounds f
bounds f e =
    let p = and_parts (nat_le f.low f.high) _ e in
    let q = and_parts (nat_le f.high 100000) _ p.1 in
    record { low_at_most_high = leb-true _ _ p.0; high_at_most_100000 = leb-true _ _ q.0; need_and_span_at_most_100000 = leb-true _ _ q.1 }

pub within_bounds : (f : Profile) → Bounds f → is_profile f ≡ true
within_bounds f h = and_from _ _ (le-leb _ _ h.low_at_most_high) (and_from _ _ (le-leb _ _ h.high_at_most_100000) (le-leb _ _ h.need_and_span_at_most_100000))

pub compared : (f g : Profile) → three_comparisons f g ≡ true → NoWorse f g
compared f g e =
    let p = and_parts (nat_le f.need g.need) _ e in
    let q = and_parts (nat_le g.high f.high) _ p.1 in
    record { needs_no_more = leb-true _ _ p.0; high_no_lower = leb-true _ _ q.0; low_no_lower = leb-true _ _ q.1 }

pub compares : (f g : Profile) → NoWorse f g → three_comparisons f g ≡ true
compares f g h = and_from _ _ (le-leb _ _ h.needs_no_more) (and_from _ _ (le-leb _ _ h.high_no_lower) (le-leb _ _ h.low_no_lower))

-- a higher rank for a profile that is no worse
rank_no_lower : (f g : Profile) → Bounds f → Bounds g → NoWorse f g → rank_of g ≤ rank_of f
rank_no_lower f g hf hg w = omega arith

equal_parts_equal_profiles : (f g : Profile) → f.need ≡ g.need → f.low ≡ g.low → f.high ≡ g.high → f ≡ g
equal_parts_equal_profiles f g a b c = λ i. profile (a i) (b i) (c i)

equal_ranks_equal_profiles : (f g : Profile) → Bounds f → Bounds g → rank_of f ≡ rank_of g → f ≡ g
equal_ranks_equal_profiles f g hf hg e =
    let a : f.need ≡ g.need = omega arith in
    let h : f.high ≡ g.high = omega arith in
    let l : f.low ≡ g.low = omega arith in
    equal_parts_equal_profiles f g a l h

low_no_lower_after_draw : (m c p q a b : ℕ) → a ≤ b → q + a ≤ p + b → min m (q - c) + (a + (c - p)) ≤ min m (p - c) + (b + (c - q))
low_no_lower_after_draw m c p q a b h k = omega arith

low_no_lower_after_gain : (m c p q a b : ℕ) → a ≤ b → q + a ≤ p + b → min m (q + c) + a ≤ min m (p + c) + b
low_no_lower_after_gain m c p q a b h k = omega arith

-- a drive keeps the order
no_worse_drives_no_worse : (m : ℕ) (f g g' : Profile) (c : ℤ) → NoWorse f g → over_draw m g c ≡ Some g' → (f' : Profile) × (over_draw m f c ≡ Some f') × NoWorse f' g'
no_worse_drives_no_worse m f g g' (pos c) w e =
    let p = passed (nat_le c g.high) _ g' e in
    let q : c ≤ g.high = leb-true _ _ p.0 in (
      profile (f.need + (c - f.low)) (min m (f.low - c)) (min m (f.high - c)),
      cond-true _ _ _ (le-leb c f.high (omega arith)),
      subst (NoWorse _) (same_Some _ _ p.1) (record { needs_no_more = omega arith; high_no_lower = omega arith; low_no_lower = low_no_lower_after_draw m c f.low g.low f.need g.need w.needs_no_more w.low_no_lower }),
    )
no_worse_drives_no_worse m f g g' (negsuc c) w e = (
  profile f.need (min m (f.low + suc c)) (min m (f.high + suc c)),
  refl,
  subst (NoWorse _) (same_Some _ _ e) (record { needs_no_more = w.needs_no_more; high_no_lower = omega arith; low_no_lower = low_no_lower_after_gain m (suc c) f.low g.low f.need g.need w.needs_no_more w.low_no_lower }),
)

after_drive : (m : ℕ) (f f' : Profile) (c : ℤ) → Bounds f → over_draw m f c ≡ Some f' → AfterDrive m f f'
after_drive m f f' (pos c) h e =
    let p = passed (nat_le c f.high) _ f' e in
    let q : c ≤ f.high = leb-true _ _ p.0 in
    subst (AfterDrive m f) (same_Some _ _ p.1) (record { low_at_most_high = omega arith; high_at_most_capacity = omega arith; need_and_span_not_grown = omega arith })
after_drive m f f' (negsuc c) h e =
    subst (AfterDrive m f) (same_Some _ _ e) (record { low_at_most_high = omega arith; high_at_most_capacity = omega arith; need_and_span_not_grown = omega arith })

module _ (m : ℕ) where
  pub both_and_no_worse : (f g : Profile) → (profiles m).as_good f g ≡ true → BothAndNoWorse f g
  both_and_no_worse f g e =
      let p = and_parts (is_profile f) _ e in
      let q = and_parts (is_profile g) _ p.1 in
      record { first = bounds f p.0; second = bounds g q.0; no_worse = compared f g q.1 }

  pub good : (f g : Profile) → BothAndNoWorse f g → (profiles m).as_good f g ≡ true
  good f g h = and_from _ _ (within_bounds f h.first) (and_from _ _ (within_bounds g h.second) (compares f g h.no_worse))

  pub rank_is : (f : Profile) → Bounds f → (profiles m).rank f ≡ rank_of f
  rank_is f h = cond-true _ _ _ (within_bounds f h)

  pub driven : (f f' : Profile) (e : Road) → (profiles m).drive f e ≡ Some f' → Bounds f × (over_draw m f e.draw ≡ Some f')
  driven f f' e d = let p = passed (is_profile f) _ f' d in (bounds f p.0, p.1)

module _ (m : ℕ) (few : m ≤ 100000) where
  bounds_after : (f f' : Profile) → Bounds f → AfterDrive m f f' → Bounds f'
  bounds_after f f' h d = record { low_at_most_high = d.low_at_most_high; high_at_most_100000 = omega arith; need_and_span_at_most_100000 = omega arith }

  bounds_driven : (f f' : Profile) (e : Road) → (profiles m).drive f e ≡ Some f' → Bounds f'
  bounds_driven f f' e d = let u = driven m f f' e d in bounds_after f f' u.0 (after_drive m f f' e.draw u.0 u.1)

  better_drives : (f g g' : Profile) (e : Road) → (profiles m).as_good f g ≡ true → (profiles m).drive g e ≡ Some g' → (f' : Profile) × ((profiles m).drive f e ≡ Some f') × ((profiles m).as_good f' g' ≡ true)
  better_drives f g g' e h d =
      let b = both_and_no_worse m f g h in
      let u = driven m g g' e d in
      let s = no_worse_drives_no_worse m f g g' e.draw b.no_worse u.1 in (
        s.0,
        cond-true _ _ _ (within_bounds f b.first) ∙ s.1,
        good m s.0 g' (record { first = bounds_after f s.0 b.first (after_drive m f s.0 e.draw b.first s.1); second = bounds_driven g g' e d; no_worse = s.2 }),
      )

  stays_admitted : (f f' : Profile) (e : Road) → (profiles m).admits f ≡ true → (profiles m).drive f e ≡ Some f' → (profiles m).admits f' ≡ true
  stays_admitted f f' e a d =
      let p = and_parts (is_profile f) _ a in
      let q = and_parts (nat_le f.high m) _ p.1 in
      let r : f.need + (f.high - f.low) ≤ m = leb-true _ _ q.1 in
      let u = driven m f f' e d in
      let v = after_drive m f f' e.draw u.0 u.1 in
      and_from _ _ (within_bounds f' (bounds_after f f' u.0 v)) (and_from _ _ (le-leb _ _ v.high_at_most_capacity) (le-leb (f'.need + (f'.high - f'.low)) m (omega arith)))

  pub profiles_lawful : Laws (profiles m)
  profiles_lawful = record {
    reflexive = λ f e. let h = bounds f e in good m f f (record { first = h; second = h; no_worse = record { needs_no_more = omega arith; high_no_lower = omega arith; low_no_lower = omega arith } });
    transitive = λ f g h p q. let a = both_and_no_worse m f g p in let b = both_and_no_worse m g h q in
        good m f h (record { first = a.first; second = b.second; no_worse = record { needs_no_more = omega arith; high_no_lower = omega arith; low_no_lower = omega arith } });
    better_ranks_no_lower = λ f g p. let a = both_and_no_worse m f g p in let x = rank_is m f a.first in let y = rank_is m g a.second in let z = rank_no_lower f g a.first a.second a.no_worse in omega arith;
    equal_ranks_equal_loads = λ f g p q e. equal_ranks_equal_profiles f g (bounds f p) (bounds g q) (sym (rank_is m f (bounds f p)) ∙ (e ∙ rank_is m g (bounds g q)));
    better_drives_as_well = better_drives;
    drive_stays_admitted = stays_admitted;
    drive_gives_a_load = λ f f' e d. within_bounds f' (bounds_driven f f' e d);
    head_does_not_matter = λ f e e' p q. ap (λ x. cond (is_profile f) (over_draw m f x) None) q;
    rank_below_2^63 = λ f. cond_both (is_profile f) (rank_of f) 0 (λ x. x < 2 ^ 63) (λ e. let h = bounds f e in omega arith) (λ e. omega arith);
    no_load_no_to_all = λ f e. record { not_admitted = and_left _ _ e; ranked_zero = cond-false _ _ _ e; as_good_as_none = λ g. and_left _ _ e; none_as_good = λ g. never_better g f e; not_driven = λ r. cond-false _ _ _ e };
  }
    where
      never_better : (g f : Profile) → is_profile f ≡ false → (profiles m).as_good g f ≡ false
      never_better g f e = by (is_profile g) refl
        where
          by : (t : Bool) → is_profile g ≡ t → (profiles m).as_good g f ≡ false
          by true p = and_right _ _ (and_left _ _ e)
          by false p = and_left _ _ p
