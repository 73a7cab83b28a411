-- What the invariant tells: labels and candidates are reached, and whatever is reached is served by one of them or later than a candidate.
use Rattle.std.proofs.Common.{ℕ, zero, suc, ◌<◌, ◌⊎◌, List, [], ◌∷◌, ◌++◌, length, get_or, sym, subst, inl, inr, arith}
use Rattle.std.specs.List.{ContainsAt as Has}
use Rattle.std.proofs.ByRecursion.{has_get_or}
use Rattle.front.specs.Walks.{Query, Valid, Arrival, Leads, Drives, empty_walk, one_road_more, Reached, Walk, departure}
use Rattle.front.specs.Front.{Serves}
use Rattle.front.specs.Labels.{Label, Served, ComesFrom}
use Rattle.front.specs.Invariant.{Invariant}
use Rattle.front.proofs.Serving.{serves_itself}
use Rattle.front.proofs.Walks.{reached_is_a_load, road_takes_time, server_drives_as_well}
use Rattle.front.proofs.Labels.{server_of_server_serves}

-- why a search need not look at a any more: a label serves it, a candidate serves it, or a candidate is sooner
pub data AccountedFor {L : Type 0} (q : Query L) (listed waiting : List (Label L)) (a : Arrival L) : Type 0 where
  label_serves : Served q.kind listed a → AccountedFor q listed waiting a
  candidate_serves : Served q.kind waiting a → AccountedFor q listed waiting a
  candidate_is_sooner : (c : Label L) → Has waiting c → c.arrival.time < a.time → AccountedFor q listed waiting a

module _ {L : Type 0} (q : Query L) (valid : Valid q) (listed waiting : List (Label L)) (inv : Invariant q listed waiting) where
  one_road_on_is_accounted_for : (a b : Arrival L) (k : ℕ) → AccountedFor q listed waiting a → Leads q a k b → AccountedFor q listed waiting b
  one_road_on_is_accounted_for a b k (label_serves (x, (i, h, e), s)) l = go (server_drives_as_well q valid x.arrival a b k s l)
    where
      go : (c : Arrival L) × Leads q x.arrival k c × Serves q.kind c b → AccountedFor q listed waiting b
      go (c, lc, sc) = split (inv.each_road_from_a_label_is_served_or_waits i k x c h (subst (λ (y : Label L). Leads q y.arrival k c) (sym (e x)) lc))
        where
          new : Label L
          new = record { arrival = c; before = i; place = k }

          split : Served q.kind listed c ⊎ Has waiting new → AccountedFor q listed waiting b
          split (inl v) = label_serves (server_of_server_serves q.kind valid.lawful listed c b v sc)
          split (inr v) = candidate_serves (new, v, sc)
  one_road_on_is_accounted_for a b k (candidate_serves (c, h, s)) l = candidate_is_sooner c h (omega (arith, s.no_later, road_takes_time q valid a b k l))
  one_road_on_is_accounted_for a b k (candidate_is_sooner c h p) l = candidate_is_sooner c h (omega (arith, road_takes_time q valid a b k l))

  departure_is_accounted_for : AccountedFor q listed waiting (departure q)
  departure_is_accounted_for = label_serves (get_or listed 0 d, has_get_or listed 0 d inv.some_label_is_listed, subst (λ (a : Arrival L). Serves q.kind a (departure q)) (sym (inv.first_label_is_the_departure d)) (serves_itself q.kind valid.lawful (departure q) (reached_is_a_load q valid (departure q) ([], empty_walk))))
    where
      d : Label L
      d = record { arrival = departure q; before = 0; place = 0 }

  driven_is_accounted_for : {w : Walk} {a : Arrival L} → Drives q w a → AccountedFor q listed waiting a
  driven_is_accounted_for empty_walk = departure_is_accounted_for
  driven_is_accounted_for (one_road_more {a = a} {b = b} {k = k} d l) = one_road_on_is_accounted_for a b k (driven_is_accounted_for d) l

  pub reached_is_accounted_for : (a : Arrival L) → Reached q a → AccountedFor q listed waiting a
  reached_is_accounted_for a r = driven_is_accounted_for r.1

module _ {L : Type 0} (q : Query L) (listed waiting : List (Label L)) (inv : Invariant q listed waiting) where
  one_road_on_is_reached : (n : ℕ) (x d : Label L) → ComesFrom q listed n x → Reached q (get_or listed x.before d).arrival → Reached q x.arrival
  one_road_on_is_reached n x d p (w, dr) = (w ++ x.place ∷ [], one_road_more dr (p.leads d))

  -- by following the labels before it
  numbered_label_is_reached : (n i : ℕ) (d : Label L) → i < n → i < length listed → Reached q (get_or listed i d).arrival
  numbered_label_is_reached zero i d h k = absurd (omega arith)
  numbered_label_is_reached (suc n) zero d h k = ([], subst (λ (a : Arrival L). Drives q [] a) (sym (inv.first_label_is_the_departure d)) empty_walk)
  numbered_label_is_reached (suc n) (suc i) d h k =
      let p : ComesFrom q listed (suc i) (get_or listed (suc i) d) = inv.each_later_label_comes_from_an_earlier_one (suc i) d (omega arith) k in
      one_road_on_is_reached (suc i) (get_or listed (suc i) d) d p (numbered_label_is_reached n (get_or listed (suc i) d).before d (omega (arith, p.earlier)) (omega (arith, p.earlier)))

  pub listed_is_reached : (x : Label L) → Has listed x → Reached q x.arrival
  listed_is_reached x h = subst (λ (y : Label L). Reached q y.arrival) (h.2 x) (numbered_label_is_reached (length listed) h.0 x h.1 h.1)

  pub candidate_is_reached : (c : Label L) → Has waiting c → Reached q c.arrival
  candidate_is_reached c h =
      let p : ComesFrom q listed (length listed) c = inv.each_candidate_comes_from_a_label c h in
      one_road_on_is_reached (length listed) c c p (numbered_label_is_reached (length listed) c.before c p.earlier p.earlier)
