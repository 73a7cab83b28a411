-- The least candidate that no label serves is the next arrival of the front.
use Rattle.std.proofs.Common.{◌≡◌, ℕ, ◌<◌, true, ◌⊎◌, List, [], ◌∷◌, ◌++◌, length, get_or, sym, subst, inl, inr, arith}
use Rattle.std.specs.List.{ContainsAt as Has}
use Rattle.std.proofs.ByRecursion.{has_get_or, has_push_cases, has_append_left}
use Rattle.std.proofs.lemmas.List.{length_push, get_or_push, get_or_append_left, map_push}
use Rattle.std.proofs.lemmas.Bool.{cases_order}
use Rattle.front.specs.Walks.{Query, Valid, Arrival, Leads, Reached}
use Rattle.front.specs.Front.{Serves, Beats, Unbeaten, Before, sooner, FrontBegins}
use Rattle.front.specs.Labels.{Label, Served, arrivals}
use Rattle.front.specs.Invariant.{Invariant, IsNext}
use Rattle.front.proofs.Order.{not_before_itself, before_is_transitive, before_same_or_after}
use Rattle.front.proofs.Serving.{serves_itself, serves_is_transitive, server_is_before_or_the_same, serving_each_other_is_the_same}
use Rattle.front.proofs.Walks.{reached_is_a_load, reached_server_of_unbeaten_is_the_same, road_takes_time}
use Rattle.front.proofs.Labels.{label_gives_its_arrival, arrival_has_a_label, server_of_server_serves}
use Rattle.front.proofs.Invariant.{AccountedFor, label_serves, candidate_serves, candidate_is_sooner, reached_is_accounted_for, listed_is_reached, candidate_is_reached}

module _ {L : Type 0} (q : Query L) (xs : List (Arrival L)) (a : Arrival L) where
  ordered_with_one_more : ((i j : ℕ) (d : Arrival L) → i < j → j < length xs → Before q.kind (get_or xs i d) (get_or xs j d)) → ((b : Arrival L) → Has xs b → Before q.kind b a)
      → (i j : ℕ) (d : Arrival L) → i < j → j < length (xs ++ a ∷ []) → Before q.kind (get_or (xs ++ a ∷ []) i d) (get_or (xs ++ a ∷ []) j d)
  ordered_with_one_more o h i j d l k = go (cases_order j (length xs))
    where
      go : (j ≡ length xs) ⊎ ((j < length xs) ⊎ (length xs < j)) → Before q.kind (get_or (xs ++ a ∷ []) i d) (get_or (xs ++ a ∷ []) j d)
      go (inl p) = rw (get_or_append_left xs (a ∷ []) d i (omega arith), get_or_push xs a d j (sym p)) (h (get_or xs i d) (has_get_or xs i d (omega arith)))
      go (inr (inl p)) = rw (get_or_append_left xs (a ∷ []) d i (omega arith), get_or_append_left xs (a ∷ []) d j p) (o i j d l p)
      go (inr (inr p)) = absurd (omega (arith, length_push xs a))

  -- an unbeaten arrival after all of a beginning, with no unlisted one before it, is the next
  pub front_begins_with_one_more : FrontBegins q xs → Unbeaten q a → ((b : Arrival L) → Has xs b → Before q.kind b a) → ((b : Arrival L) → Unbeaten q b → Before q.kind b a → Has xs b) → FrontBegins q (xs ++ a ∷ [])
  front_begins_with_one_more f u after none_between = record { unbeaten = λ b h. un b (has_push_cases xs a b h); ordered = ordered_with_one_more f.ordered after; unskipped = λ b c v h p. skip b c v p (has_push_cases xs a c h) }
    where
      un : (b : Arrival L) → Has xs b ⊎ (a ≡ b) → Unbeaten q b
      un b (inl h) = f.unbeaten b h
      un b (inr e) = subst (λ (x : Arrival L). Unbeaten q x) e u

      skip : (b c : Arrival L) → Unbeaten q b → Before q.kind b c → Has xs c ⊎ (a ≡ c) → Has (xs ++ a ∷ []) b
      skip b c v p (inl h) = has_append_left xs (a ∷ []) b (f.unskipped b c v h p)
      skip b c v p (inr e) = has_append_left xs (a ∷ []) b (none_between b v (subst (λ (x : Arrival L). Before q.kind b x) (sym e) p))

module _ {L : Type 0} (q : Query L) (valid : Valid q) (listed waiting : List (Label L)) (inv : Invariant q listed waiting) where
  pub unbeaten_with_no_candidate_up_to_it_is_listed : (a : Arrival L) → Unbeaten q a → ((c : Label L) → Has waiting c → Before q.kind c.arrival a ⊎ (c.arrival ≡ a) → ⊥) → Has (arrivals listed) a
  unbeaten_with_no_candidate_up_to_it_is_listed a u none_up_to_it = go (reached_is_accounted_for q valid listed waiting inv a u.reached)
    where
      go : AccountedFor q listed waiting a → Has (arrivals listed) a
      go (label_serves (x, h, s)) = subst (λ (b : Arrival L). Has (arrivals listed) b) (reached_server_of_unbeaten_is_the_same q valid x.arrival a u (listed_is_reached q listed waiting inv x h) s) (label_gives_its_arrival listed x h)
      go (candidate_serves (c, h, s)) = absurd (none_up_to_it c h (server_is_before_or_the_same q.kind valid.lawful c.arrival a s))
      go (candidate_is_sooner c h p) = absurd (none_up_to_it c h (inl (sooner p)))

module _ {L : Type 0} (q : Query L) (valid : Valid q) (listed waiting : List (Label L)) (c : Label L) (inv : Invariant q listed waiting) (next : IsNext q listed waiting c) where
  pub next_candidate_is_reached : Reached q c.arrival
  next_candidate_is_reached = candidate_is_reached q listed waiting inv c next.waits

  pub next_candidate_is_unbeaten : Unbeaten q c.arrival
  next_candidate_is_unbeaten = record { reached = next_candidate_is_reached; not_beaten = λ b r t. never b t (reached_is_accounted_for q valid listed waiting inv b r) }
    where
      never : (b : Arrival L) → Beats q.kind b c.arrival → AccountedFor q listed waiting b → ⊥
      never b t (label_serves v) = next.no_label_serves_it (server_of_server_serves q.kind valid.lawful listed b c.arrival v t.serves)
      never b t (candidate_serves (d, h, s)) = go (server_is_before_or_the_same q.kind valid.lawful d.arrival c.arrival (serves_is_transitive q.kind valid.lawful d.arrival b c.arrival s t.serves))
        where
          go : Before q.kind d.arrival c.arrival ⊎ (d.arrival ≡ c.arrival) → ⊥
          go (inl p) = next.no_candidate_is_before_it d h p
          go (inr e) = t.differ (serving_each_other_is_the_same q.kind valid.lawful b c.arrival t.serves (subst (λ (a : Arrival L). Serves q.kind a b) e s))
      never b t (candidate_is_sooner d h p) = next.no_candidate_is_before_it d h (sooner (omega (arith, t.serves.no_later)))

  pub label_is_before_the_next_candidate : (x : Label L) → Has listed x → Before q.kind x.arrival c.arrival
  label_is_before_the_next_candidate x h = go (before_same_or_after q.kind valid.lawful x.arrival c.arrival x_is_a_load (reached_is_a_load q valid c.arrival next_candidate_is_reached))
    where
      x_is_a_load : q.kind.is_load x.arrival.load ≡ true
      x_is_a_load = reached_is_a_load q valid x.arrival (listed_is_reached q listed waiting inv x h)

      go : Before q.kind x.arrival c.arrival ⊎ ((x.arrival ≡ c.arrival) ⊎ Before q.kind c.arrival x.arrival) → Before q.kind x.arrival c.arrival
      go (inl p) = p
      go (inr (inl e)) = absurd (next.no_label_serves_it (x, h, subst (λ (a : Arrival L). Serves q.kind x.arrival a) e (serves_itself q.kind valid.lawful x.arrival x_is_a_load)))
      go (inr (inr p)) = absurd (inv.no_candidate_is_before_a_label c x next.waits h p)

  listed_is_before_the_next_candidate : (b : Arrival L) → Has (arrivals listed) b → Before q.kind b c.arrival
  listed_is_before_the_next_candidate b h = go (arrival_has_a_label listed b h)
    where
      go : (x : Label L) × Has listed x × (x.arrival ≡ b) → Before q.kind b c.arrival
      go (x, g, e) = subst (λ (y : Arrival L). Before q.kind y c.arrival) e (label_is_before_the_next_candidate x g)

  pub next_candidate_is_unlisted : Has (arrivals listed) c.arrival → ⊥
  next_candidate_is_unlisted h = not_before_itself q.kind c.arrival (listed_is_before_the_next_candidate c.arrival h)

  pub unbeaten_before_the_next_is_listed : (a : Arrival L) → Unbeaten q a → Before q.kind a c.arrival → Has (arrivals listed) a
  unbeaten_before_the_next_is_listed a u p = unbeaten_with_no_candidate_up_to_it_is_listed q valid listed waiting inv a u none
    where
      none : (d : Label L) → Has waiting d → Before q.kind d.arrival a ⊎ (d.arrival ≡ a) → ⊥
      none d h (inl r) = next.no_candidate_is_before_it d h (before_is_transitive q.kind d.arrival a c.arrival r p)
      none d h (inr e) = next.no_candidate_is_before_it d h (subst (λ (y : Arrival L). Before q.kind y c.arrival) (sym e) p)

  pub next_candidate_is_the_next_of_the_front : FrontBegins q (arrivals (listed ++ c ∷ []))
  next_candidate_is_the_next_of_the_front = rw (map_push (λ (x : Label L). x.arrival) listed c) (front_begins_with_one_more q (arrivals listed) c.arrival inv.listed_begin_the_front next_candidate_is_unbeaten listed_is_before_the_next_candidate unbeaten_before_the_next_is_listed)

  pub unbeaten_one_road_before_the_next_is_listed : (a : Arrival L) (k : ℕ) → Unbeaten q a → Leads q a k c.arrival → Has (arrivals listed) a
  unbeaten_one_road_before_the_next_is_listed a k u l = unbeaten_before_the_next_is_listed a u (sooner (road_takes_time q valid a c.arrival k l))

  pub each_road_to_the_next_waits : (i k : ℕ) (d : Label L) → i < length listed → Leads q (get_or listed i d).arrival k c.arrival → Has waiting (record { arrival = c.arrival; before = i; place = k })
  each_road_to_the_next_waits i k d h l = go (inv.each_road_from_a_label_is_served_or_waits i k d c.arrival h l)
    where
      go : Served q.kind listed c.arrival ⊎ Has waiting (record { arrival = c.arrival; before = i; place = k }) → Has waiting (record { arrival = c.arrival; before = i; place = k })
      go (inl v) = absurd (next.no_label_serves_it v)
      go (inr g) = g
