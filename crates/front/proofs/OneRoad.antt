-- A place leads to an arrival exactly when that is the answer of driving its road, and only the first twelve places do.
use Rattle.std.proofs.Common.{◌≡◌, ℕ, ◌+◌, ◌<◌, ◌≤◌, Bool, true, false, cond, leb, ◌⊎◌, [], length, get_or, Some, None, Option, sym, refl, ap, ◌∙◌, subst, inl, inr, arith}
use Rattle.std.proofs.lemmas.List.{get_or_past}
use Rattle.std.proofs.lemmas.Bool.{leb-true, le-leb, cases_lt}
use Rattle.maps.specs.declared.road.Road.{Road}
use Rattle.maps.specs.Rows.{at}
use Rattle.front.specs.Walks.{Query, Valid, Arrival, Leads}
use Rattle.front.specs.OneRoad.{arrival_with_load, arrival_over_road, arrival_by_place}
use Rattle.front.proofs.Order.{equal_parts_equal_arrivals}

module _ {L : Type 0} (q : Query L) (a : Arrival L) where
  arrival_with_load_leads : (k : ℕ) (b : Arrival L) (e : Road) (o : Option L) → at q.rows a.junction k ≡ Some e → q.kind.drive a.load e ≡ o → arrival_with_load q.deadline a e o ≡ Some b → Leads q a k b
  arrival_with_load_leads k b e None h d p = absurd (let z : ◌≡◌ {A = ℕ} 0 1 = cc in omega arith)
  arrival_with_load_leads k b e (Some f) h d p = go (leb (a.time + e.seconds) q.deadline) refl p
    where
      to : Arrival L
      to = record { junction = e.head; time = a.time + e.seconds; load = f }

      go : (t : Bool) → leb (a.time + e.seconds) q.deadline ≡ t → cond t (Some to) None ≡ Some b → Leads q a k b
      go true l r = let s : to ≡ b = cc in subst (λ (x : Arrival L). Leads q a k x) s (record { road = e; at_place = h; driven = d; at_head = refl; seconds_later = refl; within_deadline = leb-true (a.time + e.seconds) q.deadline l })
      go false l r = absurd (let z : ◌≡◌ {A = ℕ} 0 1 = cc in omega arith)

  arrival_over_road_leads : (k : ℕ) (b : Arrival L) (o : Option Road) → at q.rows a.junction k ≡ o → arrival_over_road q.kind q.deadline a o ≡ Some b → Leads q a k b
  arrival_over_road_leads k b None h p = absurd (let z : ◌≡◌ {A = ℕ} 0 1 = cc in omega arith)
  arrival_over_road_leads k b (Some e) h p = arrival_with_load_leads k b e (q.kind.drive a.load e) h refl p

  pub arrival_by_place_leads : (k : ℕ) (b : Arrival L) → arrival_by_place q.rows q.kind q.deadline a k ≡ Some b → Leads q a k b
  arrival_by_place_leads k b p = arrival_over_road_leads k b (at q.rows a.junction k) refl p

  pub leads_to_arrival_by_place : (k : ℕ) (b : Arrival L) → Leads q a k b → arrival_by_place q.rows q.kind q.deadline a k ≡ Some b
  leads_to_arrival_by_place k b l = ap (arrival_over_road q.kind q.deadline a) l.at_place ∙ ap (arrival_with_load q.deadline a l.road) l.driven ∙ ap (λ (t : Bool). cond t (Some to) None) (le-leb (a.time + l.road.seconds) q.deadline (omega (arith, l.seconds_later, l.within_deadline))) ∙ ap Some (equal_parts_equal_arrivals to b (sym l.at_head) (sym l.seconds_later) refl)
    where
      to : Arrival L
      to = record { junction = l.road.head; time = a.time + l.road.seconds; load = b.load }

  pub place_leads_to_one_arrival : (k : ℕ) (b c : Arrival L) → Leads q a k b → Leads q a k c → b ≡ c
  place_leads_to_one_arrival k b c l m = let e = sym (leads_to_arrival_by_place k b l) ∙ leads_to_arrival_by_place k c m in cc

  pub leading_place_is_below_twelve : Valid q → (k : ℕ) (b : Arrival L) → Leads q a k b → k < 12
  unfolding at
  leading_place_is_below_twelve valid k b l = go (cases_lt a.junction (length q.rows)) (cases_lt k (length (get_or q.rows a.junction [])))
    where
      go : (a.junction < length q.rows) ⊎ (length q.rows ≤ a.junction) → (k < length (get_or q.rows a.junction [])) ⊎ (length (get_or q.rows a.junction []) ≤ k) → k < 12
      go (inl h) (inl r) = omega (arith, valid.sound.twelve a.junction h)
      go (inr h) (inl r) = absurd (omega (arith, ap length (get_or_past q.rows a.junction [] h)))
      go h (inr r) = absurd (let e = get_or_past (get_or q.rows a.junction []) k None r in let z : ◌≡◌ {A = ℕ} 0 1 = cc l.at_place in omega arith)
