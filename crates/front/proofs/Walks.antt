-- What is reached carries an admitted load, a walk has one arrival, and every road takes time.
use Rattle.std.proofs.Common.{◌≡◌, ℕ, ◌+◌, ◌<◌, true, ◌⊎◌, [], length, Some, sym, refl, ap, ◌∙◌, subst, inl, inr, arith}
use Rattle.std.proofs.lemmas.List.{length_push, same_from_push}
use Rattle.maps.specs.declared.road.Road.{Road}
use Rattle.maps.specs.Rows.{at}
use Rattle.front.specs.Walks.{Query, Valid, Arrival, Leads, Drives, empty_walk, one_road_more, Reached, Walk, departure}
use Rattle.front.specs.Front.{Serves, Beats, Unbeaten, Before}
use Rattle.front.proofs.Loads.{admitted_is_a_load}
use Rattle.front.proofs.Order.{not_before_itself, before_is_no_later}
use Rattle.front.proofs.Serving.{server_is_before_or_the_same}
use Rattle.front.proofs.OneRoad.{place_leads_to_one_arrival}

equal_walks_one_arrival : {L : Type 0} (q : Query L) {v w : Walk} {a b : Arrival L} → Drives q v a → Drives q w b → v ≡ w → a ≡ b
equal_walks_one_arrival q empty_walk empty_walk e = refl
equal_walks_one_arrival q empty_walk (one_road_more {w = w} {k = k} d l) e = absurd (omega (arith, ap length e, length_push w k))
equal_walks_one_arrival q (one_road_more {w = v} {k = j} d l) empty_walk e = absurd (omega (arith, ap length e, length_push v j))
equal_walks_one_arrival {L} q (one_road_more {w = v} {a = a} {b = b} {k = j} d l) (one_road_more {w = w} {a = a'} {b = b'} {k = k} d' l') e =
    let (p, r) = same_from_push v w j k e in
    let s = equal_walks_one_arrival q d d' p in
    place_leads_to_one_arrival q a' k b b' (subst (λ (x : Arrival L). Leads q x k b) s (subst (λ (i : ℕ). Leads q a i b) r l)) l'

pub walk_has_one_arrival : {L : Type 0} (q : Query L) (w : Walk) (a b : Arrival L) → Drives q w a → Drives q w b → a ≡ b
walk_has_one_arrival q w a b d e = equal_walks_one_arrival q d e refl

module _ {L : Type 0} (q : Query L) (valid : Valid q) where
  drives_to_an_admitted_load : {w : Walk} {a : Arrival L} → Drives q w a → q.kind.admits a.load ≡ true
  drives_to_an_admitted_load empty_walk = valid.admitted
  drives_to_an_admitted_load (one_road_more {a = a} {b = b} d l) = valid.lawful.drive_stays_admitted a.load b.load l.road (drives_to_an_admitted_load d) l.driven

  pub reached_is_admitted : (a : Arrival L) → Reached q a → q.kind.admits a.load ≡ true
  reached_is_admitted a r = drives_to_an_admitted_load r.1

  pub reached_is_a_load : (a : Arrival L) → Reached q a → q.kind.is_load a.load ≡ true
  reached_is_a_load a r = admitted_is_a_load q.kind valid.lawful a.load (reached_is_admitted a r)

  pub reached_server_of_unbeaten_is_the_same : (a b : Arrival L) → Unbeaten q b → Reached q a → Serves q.kind a b → a ≡ b
  reached_server_of_unbeaten_is_the_same a b u r s = go (server_is_before_or_the_same q.kind valid.lawful a b s)
    where
      go : Before q.kind a b ⊎ (a ≡ b) → a ≡ b
      go (inl p) = absurd (u.not_beaten a r (record { serves = s; differ = λ e. not_before_itself q.kind b (subst (λ (x : Arrival L). Before q.kind x b) e p) }))
      go (inr e) = e

  pub road_takes_time : (a b : Arrival L) (k : ℕ) → Leads q a k b → a.time < b.time
  road_takes_time a b k l = omega (arith, l.seconds_later, (valid.sound.fits a.junction k l.road l.at_place).least)

  -- a road that one arrival can take, one that serves it can take too, with a result as good
  pub server_drives_as_well : (x a b : Arrival L) (k : ℕ) → Serves q.kind x a → Leads q a k b → (c : Arrival L) × Leads q x k c × Serves q.kind c b
  server_drives_as_well x a b k s l = (c, leads, serves)
    where
      e : Road
      e = l.road

      kept : (f : L) × (q.kind.drive x.load e ≡ Some f) × (q.kind.as_good f b.load ≡ true)
      kept = valid.lawful.better_drives_as_well x.load a.load b.load e s.as_good l.driven

      c : Arrival L
      c = record { junction = e.head; time = x.time + e.seconds; load = kept.0 }

      leads : Leads q x k c
      leads = record { road = e; at_place = ap (λ (v : ℕ). at q.rows v k) s.same_junction ∙ l.at_place; driven = kept.1; at_head = refl; seconds_later = refl; within_deadline = omega (arith, l.seconds_later, l.within_deadline, s.no_later) }

      serves : Serves q.kind c b
      serves = record { same_junction = sym l.at_head; no_later = omega (arith, l.seconds_later, s.no_later); as_good = kept.2 }

  departure_or_later : {w : Walk} {a : Arrival L} → Drives q w a → (a ≡ departure q) ⊎ (0 < a.time)
  departure_or_later empty_walk = inl refl
  departure_or_later (one_road_more {a = a} {b = b} {k = k} d l) = inr (omega (arith, road_takes_time a b k l))

  pub departure_is_unbeaten : Unbeaten q (departure q)
  departure_is_unbeaten = record { reached = ([], empty_walk); not_beaten = λ b r t. go b t (departure_or_later r.1) }
    where
      go : (b : Arrival L) → Beats q.kind b (departure q) → (b ≡ departure q) ⊎ (0 < b.time) → ⊥
      go b t (inl e) = t.differ e
      go b t (inr p) = omega (arith, t.serves.no_later)

  pub none_is_reached_before_the_departure : (b : Arrival L) → Reached q b → Before q.kind b (departure q) → ⊥
  none_is_reached_before_the_departure b r p = go (departure_or_later r.1)
    where
      go : (b ≡ departure q) ⊎ (0 < b.time) → ⊥
      go (inl e) = not_before_itself q.kind (departure q) (subst (λ (y : Arrival L). Before q.kind y (departure q)) e p)
      go (inr l) = omega (arith, before_is_no_later q.kind b (departure q) p)
