-- Labels that pass the test are the whole front, and nothing waits any more.
use Rattle.std.proofs.Common.{◌≡◌, ℕ, zero, suc, ◌+◌, ◌<◌, ◌≤◌, true, not, ◌&&◌, ◌||◌, eqb, ltb, leb, ◌⊎◌, List, [], ◌∷◌, ◌++◌, length, get_or, Some, None, Option, sym, ap, ◌∙◌, subst, subst₂, inl, inr, arith}
use lib.ListN.{length-map}
use Rattle.std.specs.List.{ContainsAt as Has}
use Rattle.std.proofs.ByRecursion.{has_get_or}
use Rattle.std.proofs.lemmas.List.{get_or-map, get_or_default}
use Rattle.std.proofs.lemmas.Bool.{and_parts, and_from, or_cases, not-true, eqb-true, leb-true, ltb-true, eq-eqb, le-leb, cases_lt, cases_order, false≢true, true≢false}
use Rattle.maps.specs.declared.road.Road.{Road}
use Rattle.maps.specs.Rows.{at}
use Rattle.loads.specs.Meaning.{Meaning}
use Rattle.loads.specs.Laws.{Laws}
use Rattle.front.specs.declared.arrival.Arrival.{Arrival}
use Rattle.front.specs.declared.label.Label.{Label}
use Rattle.front.specs.Walks.{Query, Valid, Leads, Drives, empty_walk, one_road_more, Reached, Walk, departure}
use Rattle.front.specs.OneRoad.{arrival_over_road}
use Rattle.front.specs.Front.{Serves, Beats, Unbeaten, Before, sooner, higher_rank, lower_junction, FrontBegins}
use Rattle.front.specs.Labels.{arrivals, Served, ComesFrom}
use Rattle.front.specs.Invariant.{Invariant}
use Rattle.front.proofs.Order.{equal_parts_equal_arrivals, not_before_itself, before_is_transitive}
use Rattle.front.proofs.Serving.{serves_itself, serves_is_transitive, server_is_before_or_the_same, serving_each_other_is_the_same}
use Rattle.front.proofs.OneRoad.{leads_to_arrival_by_place, arrival_by_place_leads, leading_place_is_below_twelve}
use Rattle.front.proofs.Walks.{reached_is_a_load, reached_server_of_unbeaten_is_the_same, server_drives_as_well}
use Rattle.front.proofs.Labels.{label_gives_its_arrival, arrival_has_a_label, none_in_the_empty_list, server_of_server_serves}
use Rattle.worked.proofs.ListTests.{each, some, each_passes, some_passes, below_passes}
use Rattle.worked.proofs.FrontTest.{serves_test, same_test, before_test, served_test, arrives_test, ordered_test, by_place, comes_test, come_test, departs_test, closed_test, front_test}

module _ {L : Type 0} (m : Meaning L) where
  serves_if_tested : (a b : Arrival L) → serves_test m a b ≡ true → Serves m a b
  serves_if_tested a b e =
      let p = and_parts (eqb a.junction b.junction) _ e in
      let r = and_parts (leb a.time b.time) _ p.1 in
      record { same_junction = eqb-true _ _ p.0; no_later = leb-true _ _ r.0; as_good = r.1 }

  tested_if_serves : (a b : Arrival L) → Serves m a b → serves_test m a b ≡ true
  tested_if_serves a b s = and_from _ _ (eq-eqb _ _ s.same_junction) (and_from _ _ (le-leb _ _ s.no_later) s.as_good)

  before_if_tested : (a b : Arrival L) → before_test m a b ≡ true → Before m a b
  before_if_tested a b e = by_time (or_cases (ltb a.time b.time) _ e)
    where
      by_rank : a.time ≡ b.time → (ltb (m.rank b.load) (m.rank a.load) ≡ true) ⊎ ((eqb (m.rank a.load) (m.rank b.load) && ltb a.junction b.junction) ≡ true) → Before m a b
      by_rank t (inl r) = higher_rank t (ltb-true _ _ r)
      by_rank t (inr r) = let p = and_parts (eqb (m.rank a.load) (m.rank b.load)) _ r in lower_junction t (eqb-true _ _ p.0) (ltb-true _ _ p.1)

      by_time : (ltb a.time b.time ≡ true) ⊎ ((eqb a.time b.time && (ltb (m.rank b.load) (m.rank a.load) || (eqb (m.rank a.load) (m.rank b.load) && ltb a.junction b.junction))) ≡ true) → Before m a b
      by_time (inl t) = sooner (ltb-true _ _ t)
      by_time (inr t) = let p = and_parts (eqb a.time b.time) _ t in by_rank (eqb-true _ _ p.0) (or_cases (ltb (m.rank b.load) (m.rank a.load)) _ p.1)

  same_if_tested : Laws m → (a b : Arrival L) → same_test m a b ≡ true → a ≡ b
  same_if_tested laws a b e =
      let p = and_parts (eqb a.junction b.junction) _ e in
      let r = and_parts (eqb a.time b.time) _ p.1 in
      let s = and_parts (m.is_load a.load) _ r.1 in
      let t = and_parts (m.is_load b.load) _ s.1 in
      equal_parts_equal_arrivals a b (eqb-true _ _ p.0) (eqb-true _ _ r.0) (laws.equal_ranks_equal_loads a.load b.load s.0 t.0 (eqb-true _ _ t.1))

  arrives_if_tested : Laws m → (o : Option (Arrival L)) (b : Arrival L) → arrives_test m o b ≡ true → o ≡ Some b
  arrives_if_tested laws None b e = absurd (false≢true e)
  arrives_if_tested laws (Some a) b e = ap Some (same_if_tested laws a b e)

  served_if_tested : (ls : List (Label L)) (b : Arrival L) → served_test m ls (Some b) ≡ true → Served m ls b
  served_if_tested ls b e = let (x, h, t) = some_passes (λ (x : Label L). serves_test m x.arrival b) ls e in (x, h, serves_if_tested x.arrival b t)

  -- a label and a later one
  pub record InOrder (x y : Label L) : Type 0 where
    pub before : Before m x.arrival y.arrival
    pub serves_not : Serves m x.arrival y.arrival → ⊥

  in_order_if_tested : (ls : List (Label L)) → ordered_test m ls ≡ true → (i j : ℕ) (d : Label L) → i < j → j < length ls → InOrder (get_or ls i d) (get_or ls j d)
  in_order_if_tested [] e i j d l h = absurd (omega (arith, h))
  in_order_if_tested (x ∷ xs) e i zero d l h = absurd (omega arith)
  in_order_if_tested (x ∷ xs) e zero (suc j) d l h =
      let p = and_parts (each (λ (y : Label L). before_test m x.arrival y.arrival && not (serves_test m x.arrival y.arrival)) xs) _ e in
      let r = and_parts (before_test m x.arrival (get_or xs j d).arrival) _ (each_passes _ xs p.0 j d (omega (arith, h))) in
      record { before = before_if_tested _ _ r.0; serves_not = λ s. true≢false (sym (tested_if_serves _ _ s) ∙ not-true _ r.1) }
  in_order_if_tested (x ∷ xs) e (suc i) (suc j) d l h =
      let p = and_parts (each (λ (y : Label L). before_test m x.arrival y.arrival && not (serves_test m x.arrival y.arrival)) xs) _ e in
      in_order_if_tested xs p.1 i j d (omega arith) (omega (arith, h))

module _ {L : Type 0} (q : Query L) (n : ℕ) (f : ℕ → ℕ → Option Road) where
  come_if_tested : (ls : List (Label L)) (i : ℕ) (xs : List (Label L)) → come_test q n f ls i xs ≡ true → (j : ℕ) (d : Label L) → j < length xs → comes_test q n f ls (i + j) (get_or xs j d) ≡ true
  come_if_tested ls i [] e j d h = absurd (omega (arith, h))
  come_if_tested ls i (x ∷ xs) e zero d h = let z : i ≡ i + 0 = omega arith in subst (λ (k : ℕ). comes_test q n f ls k x ≡ true) z (and_parts (comes_test q n f ls i x) _ e).0
  come_if_tested ls i (x ∷ xs) e (suc j) d h = let z : suc i + j ≡ i + suc j = omega arith in subst (λ (k : ℕ). comes_test q n f ls k (get_or xs j d) ≡ true) z (come_if_tested ls (suc i) xs (and_parts (comes_test q n f ls i x) _ e).1 j d (omega (arith, h)))

module _ {L : Type 0} (q : Query L) (valid : Valid q) (n : ℕ) (f : ℕ → ℕ → Option Road) (places : (v k : ℕ) → v < n → k < 12 → at q.rows v k ≡ f v k) where
  by_place_is : (a : Arrival L) (k : ℕ) (b : Arrival L) → a.junction < n → k < 12 → Leads q a k b → by_place q n f a k ≡ Some b
  by_place_is a k b h l g = ap (arrival_over_road q.kind q.deadline a) (sym (places a.junction k h l)) ∙ leads_to_arrival_by_place q a k b g

  pub by_place_leads : (a : Arrival L) (k : ℕ) (b : Arrival L) → a.junction < n → k < 12 → by_place q n f a k ≡ Some b → Leads q a k b
  by_place_leads a k b h l e = arrival_by_place_leads q a k b (ap (arrival_over_road q.kind q.deadline a) (places a.junction k h l) ∙ e)

  starts_with_the_departure : (ls : List (Label L)) → departs_test q n f ls ≡ true → (0 < length ls) × ((d : Label L) → (get_or ls 0 d).arrival ≡ departure q)
  starts_with_the_departure [] e = absurd (false≢true e)
  starts_with_the_departure (x ∷ xs) e = (omega arith, λ d. same_if_tested q.kind valid.lawful x.arrival (departure q) (and_parts (same_test q.kind x.arrival (departure q)) _ e).0)

  later_ones_come : (ls : List (Label L)) → departs_test q n f ls ≡ true → (i : ℕ) (d : Label L) → 0 < i → i < length ls → comes_test q n f ls i (get_or ls i d) ≡ true
  later_ones_come [] e i d l h = absurd (false≢true e)
  later_ones_come (x ∷ xs) e zero d l h = absurd (omega arith)
  later_ones_come (x ∷ xs) e (suc i) d l h = let z : 1 + i ≡ suc i = omega arith in subst (λ (k : ℕ). comes_test q n f (x ∷ xs) k (get_or xs i d) ≡ true) z (come_if_tested q n f (x ∷ xs) 1 xs (and_parts (same_test q.kind x.arrival (departure q)) _ e).1 i d (omega (arith, h)))

  module _ (ls : List (Label L)) (tested : front_test q n f ls ≡ true) where
    departs : departs_test q n f ls ≡ true
    departs = (and_parts (departs_test q n f ls) _ tested).0

    closed : each (closed_test q n f ls) ls ≡ true
    closed = (and_parts (each (closed_test q n f ls) ls) _ (and_parts (departs_test q n f ls) _ tested).1).0

    ordered : (i j : ℕ) (d : Label L) → i < j → j < length ls → InOrder q.kind (get_or ls i d) (get_or ls j d)
    ordered = in_order_if_tested q.kind ls (and_parts (each (closed_test q n f ls) ls) _ (and_parts (departs_test q n f ls) _ tested).1).1

    on_the_map : (i : ℕ) (d : Label L) → i < length ls → (get_or ls i d).arrival.junction < n
    on_the_map i d h = ltb-true _ _ (and_parts (ltb (get_or ls i d).arrival.junction n) _ (each_passes (closed_test q n f ls) ls closed i d h)).0

    each_road_is_served : (i k : ℕ) (d : Label L) (b : Arrival L) → i < length ls → Leads q (get_or ls i d).arrival k b → Served q.kind ls b
    each_road_is_served i k d b h l = served_if_tested q.kind ls b (subst (λ (o : Option (Arrival L)). served_test q.kind ls o ≡ true) (by_place_is (get_or ls i d).arrival k b (on_the_map i d h) (leading_place_is_below_twelve q (get_or ls i d).arrival valid k b l) l) passes)
      where
        passes : served_test q.kind ls (by_place q n f (get_or ls i d).arrival k) ≡ true
        passes = below_passes (λ k. served_test q.kind ls (by_place q n f (get_or ls i d).arrival k)) 12 k (and_parts (ltb (get_or ls i d).arrival.junction n) _ (each_passes (closed_test q n f ls) ls closed i d h)).1 (leading_place_is_below_twelve q (get_or ls i d).arrival valid k b l)

    each_comes : (i : ℕ) (d : Label L) → 0 < i → i < length ls → ComesFrom q ls i (get_or ls i d)
    each_comes i d l h = record { earlier = earlier; leads = λ e. subst (λ (y : Label L). Leads q y.arrival (get_or ls i d).place (get_or ls i d).arrival) (get_or_default ls (get_or ls i d).before (get_or ls i d) e (omega (arith, earlier))) leads }
      where
        earlier : (get_or ls i d).before < i
        earlier = ltb-true _ _ (and_parts (ltb (get_or ls i d).before i) _ (later_ones_come ls departs i d l h)).0

        leads : Leads q (get_or ls (get_or ls i d).before (get_or ls i d)).arrival (get_or ls i d).place (get_or ls i d).arrival
        leads =
            let p = and_parts (ltb (get_or ls i d).place 12) _ (and_parts (ltb (get_or ls i d).before i) _ (later_ones_come ls departs i d l h)).1 in
            by_place_leads _ _ _ (on_the_map (get_or ls i d).before (get_or ls i d) (omega (arith, earlier))) (ltb-true _ _ p.0) (arrives_if_tested q.kind valid.lawful _ _ p.1)

    reached_below : (m i : ℕ) (d : Label L) → i < m → i < length ls → Reached q (get_or ls i d).arrival
    reached_below zero i d l h = absurd (omega arith)
    reached_below (suc m) i d l h = go (λ k p. reached_below m k d p) (cases_lt 0 i)
      where
        go : ((k : ℕ) → k < m → k < length ls → Reached q (get_or ls k d).arrival) → (0 < i) ⊎ (i ≤ 0) → Reached q (get_or ls i d).arrival
        go earlier (inl p) =
            let c = each_comes i d p h in
            let (w, r) = earlier (get_or ls i d).before (omega (arith, c.earlier)) (omega (arith, c.earlier)) in
            (w ++ (get_or ls i d).place ∷ [], one_road_more r (c.leads d))
        go earlier (inr p) = let z : 0 ≡ i = omega arith in ([], subst (λ (a : Arrival L). Drives q [] a) (sym ((starts_with_the_departure ls departs).1 d) ∙ ap (λ (k : ℕ). (get_or ls k d).arrival) z) empty_walk)

    label_is_reached : (x : Label L) → Has ls x → Reached q x.arrival
    label_is_reached x (i, h, e) = subst (λ (y : Label L). Reached q y.arrival) (e x) (reached_below (suc i) i x (omega arith) h)

    all_driven_is_served : {w : Walk} {a : Arrival L} → Drives q w a → Served q.kind ls a
    all_driven_is_served empty_walk =
        let (some, first) = starts_with_the_departure ls departs in
        let d : Label L = record { arrival = departure q; before = 0; place = 0 } in
        (get_or ls 0 d, has_get_or ls 0 d some, subst (λ (a : Arrival L). Serves q.kind a (departure q)) (sym (first d)) (serves_itself q.kind valid.lawful (departure q) (reached_is_a_load q valid (departure q) ([], empty_walk))))
    all_driven_is_served (one_road_more {a = a} {b = b} {k = k} d l) = go (all_driven_is_served d)
      where
        go : Served q.kind ls a → Served q.kind ls b
        go (x, (i, h, e), s) =
            let (c, lc, sc) = server_drives_as_well q valid x.arrival a b k s l in
            server_of_server_serves q.kind valid.lawful ls c b (each_road_is_served i k x c h (subst (λ (y : Label L). Leads q y.arrival k c) (sym (e x)) lc)) sc

    server_is_the_same : (x y : Label L) → Has ls x → Has ls y → Serves q.kind x.arrival y.arrival → x.arrival ≡ y.arrival
    server_is_the_same x y (i, h, e) (j, k, r) s = go (cases_order i j)
      where
        in_order : i < j → InOrder q.kind x y
        in_order l = subst₂ (λ (u v : Label L). InOrder q.kind u v) (e x) (r x) (ordered i j x l k)

        turned : j < i → InOrder q.kind y x
        turned l = subst₂ (λ (u v : Label L). InOrder q.kind u v) (r x) (e x) (ordered j i x l h)

        before_or_same : InOrder q.kind y x → Before q.kind x.arrival y.arrival ⊎ (x.arrival ≡ y.arrival) → x.arrival ≡ y.arrival
        before_or_same o (inl b) = absurd (not_before_itself q.kind x.arrival (before_is_transitive q.kind x.arrival y.arrival x.arrival b o.before))
        before_or_same o (inr p) = p

        go : (i ≡ j) ⊎ ((i < j) ⊎ (j < i)) → x.arrival ≡ y.arrival
        go (inl p) = ap (λ (z : Label L). z.arrival) (sym (e x) ∙ (ap (λ (k : ℕ). get_or ls k x) p ∙ r x))
        go (inr (inl l)) = absurd ((in_order l).serves_not s)
        go (inr (inr l)) = before_or_same (turned l) (server_is_before_or_the_same q.kind valid.lawful x.arrival y.arrival s)

    label_is_unbeaten : (x : Label L) → Has ls x → Unbeaten q x.arrival
    label_is_unbeaten x h = record { reached = label_is_reached x h; not_beaten = λ b r t. go b t (all_driven_is_served r.1) }
      where
        go : (b : Arrival L) → Beats q.kind b x.arrival → Served q.kind ls b → ⊥
        go b t (y, k, s) =
            let e = server_is_the_same y x k h (serves_is_transitive q.kind valid.lawful y.arrival b x.arrival s t.serves) in
            t.differ (serving_each_other_is_the_same q.kind valid.lawful b x.arrival t.serves (subst (λ (a : Arrival L). Serves q.kind a b) e s))

    unbeaten_is_listed : (a : Arrival L) → Unbeaten q a → Has (arrivals ls) a
    unbeaten_is_listed a u = go (all_driven_is_served u.reached.1)
      where
        go : Served q.kind ls a → Has (arrivals ls) a
        go (x, h, s) = subst (λ (b : Arrival L). Has (arrivals ls) b) (reached_server_of_unbeaten_is_the_same q valid x.arrival a u (label_is_reached x h) s) (label_gives_its_arrival ls x h)

    begins : FrontBegins q (arrivals ls)
    begins = record { unbeaten = unbeaten; ordered = in_order; unskipped = λ a b u h p. unbeaten_is_listed a u }
      where
        unbeaten : (a : Arrival L) → Has (arrivals ls) a → Unbeaten q a
        unbeaten a h = let (x, k, e) = arrival_has_a_label ls a h in subst (λ (b : Arrival L). Unbeaten q b) e (label_is_unbeaten x k)

        in_order : (i j : ℕ) (d : Arrival L) → i < j → j < length (arrivals ls) → Before q.kind (get_or (arrivals ls) i d) (get_or (arrivals ls) j d)
        in_order i j d l h =
            let x : Label L = record { arrival = d; before = 0; place = 0 } in
            let k : j < length ls = rw (length-map ls (λ (x : Label L). x.arrival)) at h in
            subst₂ (λ (u v : Arrival L). Before q.kind u v) (sym (get_or-map (λ (x : Label L). x.arrival) ls i x d (omega arith))) (sym (get_or-map (λ (x : Label L). x.arrival) ls j x d k)) (ordered i j x l k).before

    pub nothing_waits : Invariant q ls []
    nothing_waits = record {
      listed_begin_the_front = begins;
      some_label_is_listed = (starts_with_the_departure ls departs).0;
      first_label_is_the_departure = (starts_with_the_departure ls departs).1;
      each_later_label_comes_from_an_earlier_one = each_comes;
      each_candidate_comes_from_a_label = λ c h. absurd (none_in_the_empty_list c h);
      no_candidate_is_before_a_label = λ c x h k p. none_in_the_empty_list c h;
      each_road_from_a_label_is_served_or_waits = λ i k d b h l. inl (each_road_is_served i k d b h l);
    }
