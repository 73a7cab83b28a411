-- The steps of a search keep the invariant: beginning, listing the next candidate, and dropping served ones.
use Rattle.std.proofs.Common.{◌≡◌, ℕ, zero, suc, ◌<◌, ◌⊎◌, List, [], ◌∷◌, ◌++◌, length, get_or, sym, refl, ap, ◌∙◌, subst, inl, inr, arith}
use Rattle.std.specs.List.{ContainsAt as Has}
use Rattle.std.proofs.ByRecursion.{has_push_cases}
use Rattle.std.proofs.lemmas.List.{length_push, get_or_push, get_or_append_left}
use Rattle.std.proofs.lemmas.Bool.{cases_order}
use Rattle.front.specs.Walks.{Query, Valid, Arrival, Leads, departure}
use Rattle.front.specs.Front.{Before, FrontBegins}
use Rattle.front.specs.Labels.{Label, Served, ComesFrom}
use Rattle.front.specs.Invariant.{Invariant, IsNext, Spreads, Thins}
use Rattle.front.proofs.Order.{before_is_no_later}
use Rattle.front.proofs.Walks.{road_takes_time, departure_is_unbeaten, none_is_reached_before_the_departure}
use Rattle.front.proofs.Labels.{none_in_the_empty_list, more_labels_serve_as_well, comes_from_more_labels}
use Rattle.front.proofs.NextCandidate.{front_begins_with_one_more, label_is_before_the_next_candidate, next_candidate_is_the_next_of_the_front}

pub departure_begins_the_front : {L : Type 0} (q : Query L) → Valid q → FrontBegins q (departure q ∷ [])
departure_begins_the_front q valid = front_begins_with_one_more q [] (departure q) (record { unbeaten = λ a h. absurd (none_in_the_empty_list a h); ordered = λ i j d l k. absurd (omega arith); unskipped = λ a b u h p. absurd (none_in_the_empty_list b h) }) (departure_is_unbeaten q valid) (λ b h. absurd (none_in_the_empty_list b h)) (λ b u p. absurd (none_is_reached_before_the_departure q valid b u.reached p))

module _ {L : Type 0} (q : Query L) (valid : Valid q) (x : Label L) (waiting : List (Label L)) (e : x.arrival ≡ departure q) (spreads : Spreads q [] [] x waiting) where
  candidate_comes_from_the_first : (d : Label L) → Has waiting d → (d.before ≡ 0) × Leads q x.arrival d.place d.arrival
  candidate_comes_from_the_first d h = go (spreads.each_waited_or_comes_from_it d h)
    where
      go : Has [] d ⊎ ((d.before ≡ 0) × Leads q x.arrival d.place d.arrival) → (d.before ≡ 0) × Leads q x.arrival d.place d.arrival
      go (inl n) = absurd (none_in_the_empty_list d n)
      go (inr p) = p

  only_the_first_is_listed : (y : Label L) → Has (x ∷ []) y → x ≡ y
  only_the_first_is_listed y h = go (has_push_cases [] x y h)
    where
      go : Has [] y ⊎ (x ≡ y) → x ≡ y
      go (inl n) = absurd (none_in_the_empty_list y n)
      go (inr p) = p

  comes_from : (d : Label L) → Has waiting d → ComesFrom q (x ∷ []) 1 d
  comes_from d h = record { earlier = omega (arith, (candidate_comes_from_the_first d h).0); leads = λ y. subst (λ (i : ℕ). Leads q (get_or (x ∷ []) i y).arrival d.place d.arrival) (sym (candidate_comes_from_the_first d h).0) (candidate_comes_from_the_first d h).1 }

  not_before : (d y : Label L) → Has waiting d → Has (x ∷ []) y → Before q.kind d.arrival y.arrival → ⊥
  not_before d y h g p = omega (arith, road_takes_time q valid x.arrival d.arrival d.place (candidate_comes_from_the_first d h).1, before_is_no_later q.kind d.arrival x.arrival (subst (λ (z : Label L). Before q.kind d.arrival z.arrival) (sym (only_the_first_is_listed y g)) p))

  roads : (i k : ℕ) (d : Label L) (b : Arrival L) → i < 1 → Leads q (get_or (x ∷ []) i d).arrival k b → Served q.kind (x ∷ []) b ⊎ Has waiting (record { arrival = b; before = i; place = k })
  roads zero k d b h l = spreads.each_road_from_it_is_served_or_waits k b l
  roads (suc i) k d b h l = absurd (omega arith)

  pub begins_with_the_empty_walk : Invariant q (x ∷ []) waiting
  begins_with_the_empty_walk = record {
    listed_begin_the_front = subst (λ (a : Arrival L). FrontBegins q (a ∷ [])) (sym e) (departure_begins_the_front q valid);
    some_label_is_listed = omega arith;
    first_label_is_the_departure = λ d. e;
    each_later_label_comes_from_an_earlier_one = λ i d z h. absurd (omega arith);
    each_candidate_comes_from_a_label = comes_from;
    no_candidate_is_before_a_label = not_before;
    each_road_from_a_label_is_served_or_waits = roads;
  }

module _ {L : Type 0} (q : Query L) (valid : Valid q) (listed waiting waiting' : List (Label L)) (c : Label L) (inv : Invariant q listed waiting) (next : IsNext q listed waiting c) (spreads : Spreads q listed waiting c waiting') where
  label_comes_from : (i : ℕ) (d : Label L) → 0 < i → i < length (listed ++ c ∷ []) → ComesFrom q (listed ++ c ∷ []) i (get_or (listed ++ c ∷ []) i d)
  label_comes_from i d z h = go (cases_order i (length listed))
    where
      go : (i ≡ length listed) ⊎ ((i < length listed) ⊎ (length listed < i)) → ComesFrom q (listed ++ c ∷ []) i (get_or (listed ++ c ∷ []) i d)
      go (inl p) = rw (get_or_push listed c d i (sym p)) (comes_from_more_labels q listed (c ∷ []) (length listed) i c (omega arith) (omega arith) (inv.each_candidate_comes_from_a_label c next.waits))
      go (inr (inl p)) = rw (get_or_append_left listed (c ∷ []) d i p) (comes_from_more_labels q listed (c ∷ []) i i (get_or listed i d) (omega arith) (omega arith) (inv.each_later_label_comes_from_an_earlier_one i d z p))
      go (inr (inr p)) = absurd (omega (arith, length_push listed c))

  candidate_comes_from : (d : Label L) → Has waiting' d → ComesFrom q (listed ++ c ∷ []) (length (listed ++ c ∷ [])) d
  candidate_comes_from d h = go (spreads.each_waited_or_comes_from_it d h)
    where
      go : Has waiting d ⊎ ((d.before ≡ length listed) × Leads q c.arrival d.place d.arrival) → ComesFrom q (listed ++ c ∷ []) (length (listed ++ c ∷ [])) d
      go (inl g) = comes_from_more_labels q listed (c ∷ []) (length listed) (length (listed ++ c ∷ [])) d (omega arith) (omega (arith, length_push listed c)) (inv.each_candidate_comes_from_a_label d g)
      go (inr (e, l)) = record { earlier = omega (arith, length_push listed c); leads = λ x. rw (get_or_push listed c x d.before (sym e)) l }

  candidate_not_before : (d x : Label L) → Has waiting' d → Has (listed ++ c ∷ []) x → Before q.kind d.arrival x.arrival → ⊥
  candidate_not_before d x h g p = go (spreads.each_waited_or_comes_from_it d h) (has_push_cases listed c x g)
    where
      go : Has waiting d ⊎ ((d.before ≡ length listed) × Leads q c.arrival d.place d.arrival) → Has listed x ⊎ (c ≡ x) → ⊥
      go (inl w) (inl y) = inv.no_candidate_is_before_a_label d x w y p
      go (inl w) (inr e) = next.no_candidate_is_before_it d w (subst (λ (y : Label L). Before q.kind d.arrival y.arrival) (sym e) p)
      go (inr (e, l)) (inl y) = omega (arith, road_takes_time q valid c.arrival d.arrival d.place l, before_is_no_later q.kind d.arrival x.arrival p, before_is_no_later q.kind x.arrival c.arrival (label_is_before_the_next_candidate q valid listed waiting c inv next x y))
      go (inr (e, l)) (inr r) = omega (arith, road_takes_time q valid c.arrival d.arrival d.place l, before_is_no_later q.kind d.arrival c.arrival (subst (λ (y : Label L). Before q.kind d.arrival y.arrival) (sym r) p))

  road_is_served_or_waits : (i k : ℕ) (d : Label L) (b : Arrival L) → i < length (listed ++ c ∷ []) → Leads q (get_or (listed ++ c ∷ []) i d).arrival k b → Served q.kind (listed ++ c ∷ []) b ⊎ Has waiting' (record { arrival = b; before = i; place = k })
  road_is_served_or_waits i k d b h l = go (cases_order i (length listed))
    where
      from : ℕ → Label L
      from j = record { arrival = b; before = j; place = k }

      old : Served q.kind listed b ⊎ Has waiting (from i) → Served q.kind (listed ++ c ∷ []) b ⊎ Has waiting' (from i)
      old (inl v) = inl (more_labels_serve_as_well q.kind listed (c ∷ []) b v)
      old (inr g) = spreads.what_waited_is_served_or_waits (from i) g

      go : (i ≡ length listed) ⊎ ((i < length listed) ⊎ (length listed < i)) → Served q.kind (listed ++ c ∷ []) b ⊎ Has waiting' (from i)
      go (inl p) = subst (λ (j : ℕ). Served q.kind (listed ++ c ∷ []) b ⊎ Has waiting' (from j)) (sym p) (spreads.each_road_from_it_is_served_or_waits k b (rw (get_or_push listed c d i (sym p)) at l))
      go (inr (inl p)) = old (inv.each_road_from_a_label_is_served_or_waits i k d b p (rw (get_or_append_left listed (c ∷ []) d i p) at l))
      go (inr (inr p)) = absurd (omega (arith, length_push listed c))

  pub listing_keeps_the_invariant : Invariant q (listed ++ c ∷ []) waiting'
  listing_keeps_the_invariant = record {
    listed_begin_the_front = next_candidate_is_the_next_of_the_front q valid listed waiting c inv next;
    some_label_is_listed = omega (arith, length_push listed c);
    first_label_is_the_departure = λ d. ap (λ (y : Label L). y.arrival) (get_or_append_left listed (c ∷ []) d 0 inv.some_label_is_listed) ∙ inv.first_label_is_the_departure d;
    each_later_label_comes_from_an_earlier_one = label_comes_from;
    each_candidate_comes_from_a_label = candidate_comes_from;
    no_candidate_is_before_a_label = candidate_not_before;
    each_road_from_a_label_is_served_or_waits = road_is_served_or_waits;
  }

pub dropping_served_candidates_keeps_the_invariant : {L : Type 0} (q : Query L) → (listed waiting waiting' : List (Label L)) → Invariant q listed waiting → Thins q listed waiting waiting' → Invariant q listed waiting'
dropping_served_candidates_keeps_the_invariant {L} q listed waiting waiting' inv thins = record {
  listed_begin_the_front = inv.listed_begin_the_front;
  some_label_is_listed = inv.some_label_is_listed;
  first_label_is_the_departure = inv.first_label_is_the_departure;
  each_later_label_comes_from_an_earlier_one = inv.each_later_label_comes_from_an_earlier_one;
  each_candidate_comes_from_a_label = λ d h. inv.each_candidate_comes_from_a_label d (thins.each_waited d h);
  no_candidate_is_before_a_label = λ d x h. inv.no_candidate_is_before_a_label d x (thins.each_waited d h);
  each_road_from_a_label_is_served_or_waits = λ i k d b h l. go b (record { arrival = b; before = i; place = k }) refl (inv.each_road_from_a_label_is_served_or_waits i k d b h l);
}
  where
    go : (b : Arrival L) (c : Label L) → c.arrival ≡ b → Served q.kind listed b ⊎ Has waiting c → Served q.kind listed b ⊎ Has waiting' c
    go b c e (inl v) = inl v
    go b c e (inr g) = subst (λ (a : Arrival L). Served q.kind listed a ⊎ Has waiting' c) e (thins.what_waited_is_served_or_waits c g)
