-- To drive a profile and then read it at a starting charge is to read it there and then drive that charge.
use Rattle.std.proofs.Common.{◌≡◌, ℕ, suc, ◌+◌, ◌-◌, ◌<◌, ◌≤◌, min, true, leb, ◌⊎◌, ℤ, pos, negsuc, Some, None, Option, sym, ap, ◌∙◌, inl, inr, arith}
use Rattle.std.specs.Option.{option_map}
use Rattle.std.proofs.lemmas.Bool.{le-leb, lt-leb, cond-true, cond-false, cases_lt}
use Rattle.maps.specs.declared.road.Road.{Road}
use Rattle.loads.specs.declared.charge.Charge.{Charge}
use Rattle.loads.specs.declared.profile.Profile.{Profile}
use Rattle.loads.specs.Charge.{charge, charges, spent}
use Rattle.loads.specs.Profile.{profile, profiles, is_profile, over_draw}
use Rattle.loads.specs.ProfileLaws.{Bounds, bounds}
use Rattle.charts.specs.Bridge.{read_at, and_then}
use Rattle.charts.proofs.Readings.{charge_now, read_from_its_need_on, none_read_below_its_need}

-- a capacity cuts both ends of a profile alike
capped_alike : (m h p d : ℕ) → p ≤ h → min (min m h) (min m p + d) ≡ min m (min h (p + d))
capped_alike m h p d l = omega arith

lowered_alike : (h p d c : ℕ) → p ≤ h → c ≤ p → min (h - c) (p - c + d) ≡ min h (p + d) - c
lowered_alike h p d c l k = omega arith

module _ (m : ℕ) where
  -- a profile after a draw, and after a gain of one more than c
  abbrev drawn : Profile → ℕ → Profile
  drawn f c = profile (f.need + (c - f.low)) (min m (f.low - c)) (min m (f.high - c))

  abbrev gained : Profile → ℕ → Profile
  gained f c = profile f.need (min m (f.low + suc c)) (min m (f.high + suc c))

  drawn_where_high_suffices : (f : Profile) (c : ℕ) → c ≤ f.high → over_draw m f (pos c) ≡ Some (drawn f c)
  drawn_where_high_suffices f c h = cond-true (leb c f.high) (Some (drawn f c)) None (le-leb c f.high h)

  not_drawn_where_high_is_less : (f : Profile) (c : ℕ) → f.high < c → over_draw m f (pos c) ≡ None
  not_drawn_where_high_is_less f c h = cond-false (leb c f.high) (Some (drawn f c)) None (lt-leb c f.high h)

  -- the charge after a draw, whether the low end meets it or not
  charge_after_draw : (f : Profile) (b c : ℕ) → Bounds f → f.need ≤ b → c ≤ charge_now f b → (f.low < c) ⊎ (c ≤ f.low) → charge_now (drawn f c) b ≡ min m (charge_now f b - c)
  charge_after_draw f b c i n l (inl r) =
      let x : b - (f.need + (c - f.low)) ≡ f.low + (b - f.need) - c = omega arith in
      let y : f.low - c ≡ 0 = omega arith in
      rw (x, y) (omega arith)
  charge_after_draw f b c i n l (inr r) =
      let x : b - (f.need + (c - f.low)) ≡ b - f.need = omega arith in
      rw x (capped_alike m (f.high - c) (f.low - c) (b - f.need) (omega arith) ∙ ap (min m) (lowered_alike f.high f.low (b - f.need) c i.low_at_most_high r))

  -- a van that is here has its charge driven
  read_after_is_driven : (f : Profile) (b : ℕ) (d : ℤ) → Bounds f → f.need ≤ b → and_then (over_draw m f d) (read_at b) ≡ option_map charge (spent m (charge_now f b) d)
  read_after_is_driven f b (pos c) i n = go (cases_lt (charge_now f b) c) (cases_lt f.high c)
    where
      too_little : charge_now f b < c → option_map charge (spent m (charge_now f b) (pos c)) ≡ None
      too_little l = ap (option_map charge) (cond-false (leb c (charge_now f b)) (Some (min m (charge_now f b - c))) None (lt-leb c (charge_now f b) l))

      enough : c ≤ charge_now f b → option_map charge (spent m (charge_now f b) (pos c)) ≡ Some (charge (min m (charge_now f b - c)))
      enough l = ap (option_map charge) (cond-true (leb c (charge_now f b)) (Some (min m (charge_now f b - c))) None (le-leb c (charge_now f b) l))

      go : (charge_now f b < c) ⊎ (c ≤ charge_now f b) → (f.high < c) ⊎ (c ≤ f.high) → and_then (over_draw m f (pos c)) (read_at b) ≡ option_map charge (spent m (charge_now f b) (pos c))
      go (inl l) (inl k) = ap (λ (o : Option Profile). and_then o (read_at b)) (not_drawn_where_high_is_less f c k) ∙ sym (too_little l)
      go (inl l) (inr k) = ap (λ (o : Option Profile). and_then o (read_at b)) (drawn_where_high_suffices f c k) ∙ none_read_below_its_need (drawn f c) b (omega arith) ∙ sym (too_little l)
      go (inr l) (inl k) = absurd (omega arith)
      go (inr l) (inr k) = ap (λ (o : Option Profile). and_then o (read_at b)) (drawn_where_high_suffices f c k) ∙ read_from_its_need_on (drawn f c) b (omega arith) ∙ ap (λ (x : ℕ). Some (charge x)) (charge_after_draw f b c i n l (cases_lt f.low c)) ∙ sym (enough l)
  read_after_is_driven f b (negsuc c) i n = read_from_its_need_on (gained f c) b n ∙ ap (λ (x : ℕ). Some (charge x)) same
    where
      same : charge_now (gained f c) b ≡ min m (charge_now f b + suc c)
      same = omega arith

  -- a van that is not here is not there either
  none_read_after : (f : Profile) (b : ℕ) (d : ℤ) → b < f.need → and_then (over_draw m f d) (read_at b) ≡ None
  none_read_after f b (pos c) l = go (cases_lt f.high c)
    where
      go : (f.high < c) ⊎ (c ≤ f.high) → and_then (over_draw m f (pos c)) (read_at b) ≡ None
      go (inl k) = ap (λ (o : Option Profile). and_then o (read_at b)) (not_drawn_where_high_is_less f c k)
      go (inr k) = ap (λ (o : Option Profile). and_then o (read_at b)) (drawn_where_high_suffices f c k) ∙ none_read_below_its_need (drawn f c) b (omega arith)
  none_read_after f b (negsuc c) l = none_read_below_its_need (gained f c) b l

  pub driving_then_reading_is_reading_then_driving : (f : Profile) (e : Road) (b : ℕ) → (profiles m).is_load f ≡ true → and_then ((profiles m).drive f e) (read_at b) ≡ and_then (read_at b f) (λ c. (charges m).drive c e)
  driving_then_reading_is_reading_then_driving f e b h = ap (λ (o : Option Profile). and_then o (read_at b)) (cond-true (is_profile f) (over_draw m f e.draw) None h) ∙ go (cases_lt b f.need)
    where
      i : Bounds f
      i = bounds f h

      charge_driven : (charges m).drive (charge (charge_now f b)) e ≡ option_map charge (spent m (charge_now f b) e.draw)
      charge_driven = cond-true (leb (charge_now f b) 100000) (option_map charge (spent m (charge_now f b) e.draw)) None (le-leb (charge_now f b) 100000 (omega (arith, i)))

      go : (b < f.need) ⊎ (f.need ≤ b) → and_then (over_draw m f e.draw) (read_at b) ≡ and_then (read_at b f) (λ c. (charges m).drive c e)
      go (inl l) = none_read_after f b e.draw l ∙ ap (λ (o : Option Charge). and_then o (λ c. (charges m).drive c e)) (sym (none_read_below_its_need f b l))
      go (inr n) = read_after_is_driven f b e.draw i n ∙ sym charge_driven ∙ ap (λ (o : Option Charge). and_then o (λ c. (charges m).drive c e)) (sym (read_from_its_need_on f b n))
