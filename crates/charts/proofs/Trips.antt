-- A profile query stands for the charge queries of all starting charges: a walk arrives with a charge exactly as its profile reads.
use Rattle.std.proofs.Common.{◌≡◌, ℕ, ◌+◌, ◌-◌, ◌≤◌, true, ◌↔◌, [], ◌∷◌, ◌++◌, Some, None, Option, sym, refl, ap, ◌∙◌, subst, arith}
use Rattle.std.proofs.lemmas.Bool.{le-leb, and_from}
use Rattle.maps.specs.Rows.{at}
use Rattle.loads.specs.declared.charge.Charge.{Charge}
use Rattle.loads.specs.declared.profile.Profile.{Profile}
use Rattle.std.proofs.lemmas.Option.{none-some, same_Some}
use Rattle.loads.specs.Charge.{charge, charges}
use Rattle.loads.specs.ChargeLaws.{charges_lawful}
use Rattle.loads.specs.Profile.{plain, profiles}
use Rattle.loads.specs.ProfileLaws.{within_bounds, profiles_lawful}
use Rattle.front.specs.declared.arrival.Arrival.{Arrival}
use Rattle.front.specs.Walks.{Valid, Leads, Drives, empty_walk, one_road_more, Walk, departure}
use Rattle.front.proofs.Order.{equal_parts_equal_arrivals}
use Rattle.front.proofs.Walks.{reached_is_a_load, walk_has_one_arrival}
use Rattle.charts.specs.Bridge.{read_at, and_then}
use Rattle.charts.specs.Trips.{Trip, ValidTrip, profile_query, charge_query, arrival_at, ReadAs, DrivableWith}
use Rattle.charts.proofs.Readings.{charge_now, read_from_its_need_on, read_is_from_its_need_on, plain_profile_reads_each_charge}
use Rattle.charts.proofs.Bridge.{driving_then_reading_is_reading_then_driving}

pub plain_profile_is_admitted : (m : ℕ) → m ≤ 100000 → (profiles m).admits (plain m) ≡ true
plain_profile_is_admitted m h = and_from _ _ (within_bounds (plain m) (record { low_at_most_high = omega arith; high_at_most_100000 = h; need_and_span_at_most_100000 = omega arith })) (and_from _ _ (le-leb m m (omega arith)) (le-leb (0 + (m - 0)) m (omega arith)))

pub profile_query_is_valid : (t : Trip) → ValidTrip t → Valid (profile_query t)
profile_query_is_valid t valid = record { sound = valid.sound; lawful = profiles_lawful t.capacity valid.capacity_at_most_100000; admitted = plain_profile_is_admitted t.capacity valid.capacity_at_most_100000 }

pub charge_query_is_valid : (t : Trip) → ValidTrip t → (b : ℕ) → b ≤ t.capacity → Valid (charge_query t b)
charge_query_is_valid t valid b h = record { sound = valid.sound; lawful = charges_lawful t.capacity valid.capacity_at_most_100000; admitted = le-leb b t.capacity h }

module _ (t : Trip) (valid : ValidTrip t) (b : ℕ) (admitted : b ≤ t.capacity) where
  -- a road that the charge drives, the profile drives too
  profile_drives_too : (a : Arrival Profile) (x y : Arrival Charge) (k : ℕ) → (profiles t.capacity).is_load a.load ≡ true → ReadAs b a x → Leads (charge_query t b) x k y → (c : Arrival Profile) × Leads (profile_query t) a k c × ReadAs b c y
  profile_drives_too a x y k i r l = go ((profiles t.capacity).drive a.load l.road) refl (driving_then_reading_is_reading_then_driving t.capacity a.load l.road b i ∙ ap (λ (o : Option Charge). and_then o (λ c. (charges t.capacity).drive c l.road)) r.charge_read ∙ l.driven)
    where
      go : (o : Option Profile) → (profiles t.capacity).drive a.load l.road ≡ o → and_then o (read_at b) ≡ Some y.load → (c : Arrival Profile) × Leads (profile_query t) a k c × ReadAs b c y
      go None p e = absurd (none-some y.load e)
      go (Some f) p e = (
        arrival_at y.junction y.time f,
        record { road = l.road; at_place = ap (λ (v : ℕ). at t.rows v k) r.same_junction ∙ l.at_place; driven = p; at_head = l.at_head; seconds_later = omega (arith, l.seconds_later, r.same_time); within_deadline = l.within_deadline },
        record { same_junction = refl; same_time = refl; charge_read = e },
      )

  -- a road that the profile drives to one that reads as y, a charge drives to y
  charge_drives_too : (a c : Arrival Profile) (y : Arrival Charge) (k : ℕ) → (profiles t.capacity).is_load a.load ≡ true → Leads (profile_query t) a k c → ReadAs b c y → (x : Arrival Charge) × ReadAs b a x × Leads (charge_query t b) x k y
  charge_drives_too a c y k i l r = go (read_at b a.load) refl (sym (driving_then_reading_is_reading_then_driving t.capacity a.load l.road b i) ∙ ap (λ (o : Option Profile). and_then o (read_at b)) l.driven ∙ r.charge_read)
    where
      go : (o : Option Charge) → read_at b a.load ≡ o → and_then (read_at b a.load) (λ c. (charges t.capacity).drive c l.road) ≡ Some y.load → (x : Arrival Charge) × ReadAs b a x × Leads (charge_query t b) x k y
      go None p e = absurd (none-some y.load (sym (ap (λ (o : Option Charge). and_then o (λ c. (charges t.capacity).drive c l.road)) p) ∙ e))
      go (Some x) p e = (
        arrival_at a.junction a.time x,
        record { same_junction = refl; same_time = refl; charge_read = p },
        record { road = l.road; at_place = l.at_place; driven = sym (ap (λ (o : Option Charge). and_then o (λ c. (charges t.capacity).drive c l.road)) p) ∙ e; at_head = sym r.same_junction ∙ l.at_head; seconds_later = sym r.same_time ∙ l.seconds_later; within_deadline = omega (arith, r.same_time, l.within_deadline) },
      )

  with_the_charge_then_with_a_profile : {w : Walk} {x : Arrival Charge} → Drives (charge_query t b) w x → (a : Arrival Profile) × Drives (profile_query t) w a × ReadAs b a x
  with_the_charge_then_with_a_profile empty_walk = (departure (profile_query t), empty_walk, record { same_junction = refl; same_time = refl; charge_read = plain_profile_reads_each_charge t.capacity b admitted })
  with_the_charge_then_with_a_profile (one_road_more {w = w} {a = x} {b = y} {k = k} d l) = go (with_the_charge_then_with_a_profile d)
    where
      go : (a : Arrival Profile) × Drives (profile_query t) w a × ReadAs b a x → (a : Arrival Profile) × Drives (profile_query t) (w ++ k ∷ []) a × ReadAs b a y
      go (a, da, r) = let (c, lc, rc) = profile_drives_too a x y k (reached_is_a_load (profile_query t) (profile_query_is_valid t valid) a (w, da)) r l in (c, one_road_more da lc, rc)

  with_the_profile_then_with_a_charge : {w : Walk} {a : Arrival Profile} → Drives (profile_query t) w a → (x : Arrival Charge) → ReadAs b a x → Drives (charge_query t b) w x
  with_the_profile_then_with_a_charge empty_walk x r = subst (λ (y : Arrival Charge). Drives (charge_query t b) [] y) (equal_parts_equal_arrivals (departure (charge_query t b)) x r.same_junction r.same_time (same_Some _ _ (sym (plain_profile_reads_each_charge t.capacity b admitted) ∙ r.charge_read))) empty_walk
  with_the_profile_then_with_a_charge (one_road_more {w = w} {a = a} {b = c} {k = k} d l) y r = let (x, rx, lx) = charge_drives_too a c y k (reached_is_a_load (profile_query t) (profile_query_is_valid t valid) a (w, d)) l r in one_road_more (with_the_profile_then_with_a_charge d x rx) lx

  pub walk_arrives_as_its_profile_reads : (w : Walk) (x : Arrival Charge) → Drives (charge_query t b) w x ↔ ((a : Arrival Profile) × Drives (profile_query t) w a × ReadAs b a x)
  walk_arrives_as_its_profile_reads w x = (λ d. with_the_charge_then_with_a_profile d, λ h. with_the_profile_then_with_a_charge h.1 x h.2)

  pub drivable_exactly_with_its_need : (w : Walk) (v s : ℕ) → DrivableWith t b w v s ↔ ((f : Profile) × Drives (profile_query t) w (arrival_at v s f) × (f.need ≤ b))
  drivable_exactly_with_its_need w v s = (λ h. go h.0 (with_the_charge_then_with_a_profile h.1), λ h. (charge (charge_now h.0 b), with_the_profile_then_with_a_charge h.1 _ (record { same_junction = refl; same_time = refl; charge_read = read_from_its_need_on h.0 b h.2 })))
    where
      go : (c : Charge) → (a : Arrival Profile) × Drives (profile_query t) w a × ReadAs b a (arrival_at v s c) → (f : Profile) × Drives (profile_query t) w (arrival_at v s f) × (f.need ≤ b)
      go c (a, d, r) = (a.load, subst (λ (y : Arrival Profile). Drives (profile_query t) w y) (equal_parts_equal_arrivals a (arrival_at v s a.load) r.same_junction r.same_time refl) d, read_is_from_its_need_on a.load b c r.charge_read)

pub profile_of_a_walk_tells_its_arrivals : (t : Trip) → ValidTrip t → (w : Walk) (a : Arrival Profile) → Drives (profile_query t) w a → (b : ℕ) → b ≤ t.capacity → (x : Arrival Charge) → Drives (charge_query t b) w x ↔ ReadAs b a x
profile_of_a_walk_tells_its_arrivals t valid w a d b admitted x = (λ h. go (with_the_charge_then_with_a_profile t valid b admitted h), λ r. with_the_profile_then_with_a_charge t valid b admitted d x r)
  where
    go : (c : Arrival Profile) × Drives (profile_query t) w c × ReadAs b c x → ReadAs b a x
    go (c, dc, r) = subst (λ (y : Arrival Profile). ReadAs b y x) (walk_has_one_arrival (profile_query t) w c a dc d) r
