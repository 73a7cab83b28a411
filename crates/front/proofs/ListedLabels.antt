-- What the listed labels tell of all that is reached.
use Rattle.std.proofs.Common.{◌≡◌, ℕ, ◌<◌, ◌≤◌, ◌⊎◌, List, [], sym, ◌∙◌, subst, inl, inr, arith}
use Rattle.std.specs.List.{ContainsAt as Has}
use Rattle.std.proofs.lemmas.Bool.{cases_lt}
use Rattle.front.specs.Walks.{Query, Valid, Arrival, Reached}
use Rattle.front.specs.Front.{Before, sooner, IsFront}
use Rattle.front.specs.Labels.{Label, Served, arrivals}
use Rattle.front.specs.Invariant.{Invariant}
use Rattle.front.proofs.Order.{before_is_transitive}
use Rattle.front.proofs.Serving.{server_is_before_or_the_same}
use Rattle.front.proofs.Labels.{none_in_the_empty_list}
use Rattle.front.proofs.Invariant.{AccountedFor, label_serves, candidate_serves, candidate_is_sooner, reached_is_accounted_for}
use Rattle.front.proofs.NextCandidate.{unbeaten_with_no_candidate_up_to_it_is_listed}

module _ {L : Type 0} (q : Query L) (valid : Valid q) (listed : List (Label L)) (inv : Invariant q listed []) where
  pub nothing_waits_so_the_front_is_listed : IsFront q (arrivals listed)
  nothing_waits_so_the_front_is_listed = record { begins = inv.listed_begin_the_front; all = λ a u. unbeaten_with_no_candidate_up_to_it_is_listed q valid listed [] inv a u (λ c h p. none_in_the_empty_list c h) }

  pub nothing_waits_so_labels_serve_all_reached : (a : Arrival L) → Reached q a → Served q.kind listed a
  nothing_waits_so_labels_serve_all_reached a r = go (reached_is_accounted_for q valid listed [] inv a r)
    where
      go : AccountedFor q listed [] a → Served q.kind listed a
      go (label_serves v) = v
      go (candidate_serves (c, h, s)) = absurd (none_in_the_empty_list c h)
      go (candidate_is_sooner c h p) = absurd (none_in_the_empty_list c h)

  pub junction_without_label_is_not_reached : (v : ℕ) → ((y : Label L) → Has listed y → y.arrival.junction ≡ v → ⊥) → (a : Arrival L) → Reached q a → a.junction ≡ v → ⊥
  junction_without_label_is_not_reached v none a r e = go (nothing_waits_so_labels_serve_all_reached a r)
    where
      go : Served q.kind listed a → ⊥
      go (y, g, s) = none y g (s.same_junction ∙ e)

module _ {L : Type 0} (q : Query L) (valid : Valid q) (listed waiting : List (Label L)) (inv : Invariant q listed waiting) (x : Label L) (here : Has listed x) where
  pub labels_serve_what_is_reached_before_one : (a : Arrival L) → Reached q a → Before q.kind a x.arrival → Served q.kind listed a
  labels_serve_what_is_reached_before_one a r p = go (reached_is_accounted_for q valid listed waiting inv a r)
    where
      none : (c : Label L) → Has waiting c → Before q.kind c.arrival a ⊎ (c.arrival ≡ a) → ⊥
      none c h (inl b) = inv.no_candidate_is_before_a_label c x h here (before_is_transitive q.kind c.arrival a x.arrival b p)
      none c h (inr e) = inv.no_candidate_is_before_a_label c x h here (subst (λ (y : Arrival L). Before q.kind y x.arrival) (sym e) p)

      go : AccountedFor q listed waiting a → Served q.kind listed a
      go (label_serves v) = v
      go (candidate_serves (c, h, s)) = absurd (none c h (server_is_before_or_the_same q.kind valid.lawful c.arrival a s))
      go (candidate_is_sooner c h l) = absurd (none c h (inl (sooner l)))

  pub first_label_at_a_junction_is_the_fastest : ((y : Label L) → Has listed y → y.arrival.junction ≡ x.arrival.junction → Before q.kind y.arrival x.arrival → ⊥)
      → (a : Arrival L) → Reached q a → a.junction ≡ x.arrival.junction → x.arrival.time ≤ a.time
  first_label_at_a_junction_is_the_fastest first a r e = go (cases_lt a.time x.arrival.time)
    where
      none_sooner : a.time < x.arrival.time → Served q.kind listed a → ⊥
      none_sooner l (y, g, s) = first y g (s.same_junction ∙ e) (sooner (omega (arith, s.no_later)))

      go : (a.time < x.arrival.time) ⊎ (x.arrival.time ≤ a.time) → x.arrival.time ≤ a.time
      go (inl l) = absurd (none_sooner l (labels_serve_what_is_reached_before_one a r (sooner l)))
      go (inr l) = l
