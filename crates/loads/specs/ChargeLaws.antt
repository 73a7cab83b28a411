-- The charge kind keeps the laws.
use Rattle.std.specs.Prelude.{◌≡◌, ℕ, suc, ◌+◌, ◌-◌, ◌^◌, ◌<◌, ◌≤◌, min, Bool, true, false, cond, ℤ, pos, negsuc, Some, None, nat_le, refl}
use Rattle.std.proofs.Common.{sym, ap, ◌∙◌, arith}
use Rattle.std.specs.Option.{option_map}
use Rattle.std.proofs.lemmas.Bool.{leb-true, leb-false, le-leb, lt-leb, and_parts, and_from, and_left, and_right, cond-true, cond-false, cond_both}
use Rattle.maps.specs.declared.road.Road.{Road}
use Rattle.loads.specs.declared.charge.Charge.{Charge}
use Rattle.loads.specs.Laws.{Laws}
use Rattle.loads.specs.Charge.{spent, charge, charges}
use Rattle.std.proofs.lemmas.Option.{same_Some}
use Rattle.loads.specs.Picked.{passed, from_mapped}

-- more is left of more
spent_more : (m a b b' : ℕ) (c : ℤ) → b ≤ a → spent m b c ≡ Some b' → (a' : ℕ) × (spent m a c ≡ Some a') × (b' ≤ a')
spent_more m a b b' (pos c) h e =
    let p = passed (nat_le c b) (Some (min m (b - c))) b' e in
    let q : c ≤ b = leb-true c b p.0 in
    let r : min m (b - c) ≡ b' = same_Some _ _ p.1 in
    (min m (a - c), cond-true _ _ _ (le-leb c a (omega arith)), omega arith)
spent_more m a b b' (negsuc c) h e =
    let r : min m (b + suc c) ≡ b' = same_Some _ _ e in
    (min m (a + suc c), refl, omega arith)

spent_most : (m b b' : ℕ) (c : ℤ) → spent m b c ≡ Some b' → b' ≤ m
spent_most m b b' (pos c) e = let r : min m (b - c) ≡ b' = same_Some _ _ (passed (nat_le c b) (Some (min m (b - c))) b' e).1 in omega arith
spent_most m b b' (negsuc c) e = let r : min m (b + suc c) ≡ b' = same_Some _ _ e in omega arith

module _ (m : ℕ) (few : m ≤ 100000) where
  at_least : (f g : Charge) → (charges m).as_good f g ≡ true → (f.level ≤ 100000) × (g.level ≤ f.level)
  at_least f g e = let p = and_parts (nat_le f.level 100000) (nat_le g.level f.level) e in (leb-true _ _ p.0, leb-true _ _ p.1)

  good : (f g : Charge) → f.level ≤ 100000 → g.level ≤ f.level → (charges m).as_good f g ≡ true
  good f g p q = and_from _ _ (le-leb _ _ p) (le-leb _ _ q)

  rank_is : (f : Charge) → f.level ≤ 100000 → (charges m).rank f ≡ f.level
  rank_is f p = cond-true _ _ _ (le-leb _ _ p)

  driven : (f f' : Charge) (e : Road) → (charges m).drive f e ≡ Some f' → (spent m f.level e.draw ≡ Some f'.level)
  driven f f' e h =
      let p = from_mapped charge (spent m f.level e.draw) f' (passed (nat_le f.level 100000) _ f' h).1 in
      p.1 ∙ ap (λ (x : Charge). Some x.level) p.2

  better_drives : (f g g' : Charge) (e : Road) → (charges m).as_good f g ≡ true → (charges m).drive g e ≡ Some g' → (f' : Charge) × ((charges m).drive f e ≡ Some f') × ((charges m).as_good f' g' ≡ true)
  better_drives f g g' e h d =
      let b = at_least f g h in
      let s = spent_more m f.level g.level g'.level e.draw b.1 (driven g g' e d) in
      let t = spent_most m f.level s.0 e.draw s.1 in
      (charge s.0, cond-true _ _ _ (le-leb _ _ b.0) ∙ ap (option_map charge) s.1, good (charge s.0) g' (omega arith) s.2)

  pub charges_lawful : Laws (charges m)
  charges_lawful = record {
    reflexive = λ f e. let p = leb-true f.level 100000 e in good f f p (omega arith);
    transitive = λ f g h p q. let a = at_least f g p in let b = at_least g h q in good f h a.0 (omega arith);
    better_ranks_no_lower = λ f g p. let a = at_least f g p in let x = rank_is f a.0 in let y = rank_is g (omega arith) in omega arith;
    equal_ranks_equal_loads = λ f g p q e. ap charge (sym (rank_is f (leb-true f.level 100000 p)) ∙ (e ∙ rank_is g (leb-true g.level 100000 q)));
    better_drives_as_well = better_drives;
    drive_stays_admitted = λ f f' e p d. le-leb f'.level m (spent_most m f.level f'.level e.draw (driven f f' e d));
    drive_gives_a_load = λ f f' e d. let p = spent_most m f.level f'.level e.draw (driven f f' e d) in le-leb f'.level 100000 (omega arith);
    head_does_not_matter = λ f e e' p q. ap (λ x. cond (nat_le f.level 100000) (option_map charge (spent m f.level x)) None) q;
    rank_below_2^63 = λ f. cond_both (nat_le f.level 100000) f.level 0 (λ x. x < 2 ^ 63) (λ e. omega (arith, leb-true f.level 100000 e)) (λ e. omega arith);
    no_load_no_to_all = λ f e. let p = leb-false f.level 100000 e in
        record { not_admitted = lt-leb f.level m (omega arith); ranked_zero = cond-false _ _ _ e; as_good_as_none = λ g. and_left _ _ e; none_as_good = λ g. never_better g f p; not_driven = λ r. cond-false _ _ _ e };
  }
    where
      never_better : (g f : Charge) → 100000 < f.level → (charges m).as_good g f ≡ false
      never_better g f p = by (nat_le g.level 100000) refl
        where
          by : (t : Bool) → nat_le g.level 100000 ≡ t → (charges m).as_good g f ≡ false
          by true e = let q = leb-true g.level 100000 e in and_right _ _ (lt-leb f.level g.level (omega arith))
          by false e = and_left _ _ e
