-- The fastest drive on the map with a loop.
use Rattle.std.proofs.Common.{◌≡◌, ℕ, ◌<◌, ◌≤◌, Bool, true, not, ◌||◌, eqb, leb, ◌⊎◌, List, [], ◌∷◌, Some, sym, refl, ◌∙◌, subst, inl, inr, arith}
use Rattle.std.proofs.ByRecursion.{has_get_or}
use Rattle.std.proofs.lemmas.Bool.{or_cases, not-true, leb-true, eq-eqb, true≢false}
use Rattle.loads.specs.declared.charge.Charge.{Charge}
use Rattle.loads.specs.ChargeLaws.{charges_lawful}
use Rattle.front.specs.declared.arrival.Arrival.{Arrival}
use Rattle.front.specs.declared.label.Label.{Label}
use Rattle.front.specs.Walks.{Query, Valid, Leads, Drives, empty_walk, one_road_more}
use Rattle.front.specs.Front.{Unbeaten}
use Rattle.front.specs.Labels.{arrivals, Served}
use Rattle.front.specs.Invariant.{Invariant}
use Rattle.front.proofs.ListedLabels.{nothing_waits_so_labels_serve_all_reached}
use Rattle.promises.specs.Law.{NoneFaster}
use Rattle.worked.specs.WorkedQuery.{charged}
use Rattle.worked.specs.LoopQuery.{loop_query}
use Rattle.worked.proofs.ListTests.{each, each_passes}
use Rattle.worked.proofs.FrontTest.{by_place}
use Rattle.worked.proofs.FrontTestSound.{by_place_leads, nothing_waits}
use Rattle.worked.proofs.WorkedMaps.{loop_map_is_sound, loop_place, loop_places}
use Rattle.worked.proofs.WorkedQuery.{label}

-- each round of the loop gives 100 watt-hours until the battery is full, and from each of them the road may be taken
labels : List (Label Charge)
labels =
    label (charged 0 100 0) 0 0
    ∷ label (charged 5 200 0) 0 0
    ∷ label (charged 10 300 0) 1 0
    ∷ label (charged 15 400 0) 2 0
    ∷ label (charged 20 500 0) 3 0
    ∷ label (charged 20 50 1) 2 1
    ∷ label (charged 25 600 0) 4 0
    ∷ label (charged 25 150 1) 3 1
    ∷ label (charged 30 700 0) 6 0
    ∷ label (charged 30 250 1) 4 1
    ∷ label (charged 35 800 0) 8 0
    ∷ label (charged 35 350 1) 6 1
    ∷ label (charged 40 900 0) 10 0
    ∷ label (charged 40 450 1) 8 1
    ∷ label (charged 45 1000 0) 12 0
    ∷ label (charged 45 550 1) 10 1
    ∷ label (charged 50 650 1) 12 1
    ∷ label (charged 55 750 1) 14 1
    ∷ []

loop_query_is_valid : Valid loop_query
loop_query_is_valid = record { sound = loop_map_is_sound; lawful = charges_lawful 1000 (omega arith); admitted = refl }

invariant : Invariant loop_query labels []
unfolding labels
invariant = nothing_waits loop_query loop_query_is_valid 2 loop_place loop_places labels refl

-- where each label at the goal takes so long, each arrival there does
module _ {L : Type 0} (q : Query L) (valid : Valid q) (ls : List (Label L)) (inv : Invariant q ls []) (seconds : ℕ) where
  abbrev no_sooner : Label L → Bool
  no_sooner x = not (eqb x.arrival.junction q.goal) || leb seconds x.arrival.time

  none_faster : each no_sooner ls ≡ true → NoneFaster q seconds
  none_faster e a r there = go (nothing_waits_so_labels_serve_all_reached q valid ls inv a r)
    where
      at_the_goal : (x : Label L) → x.arrival.junction ≡ q.goal → (not (eqb x.arrival.junction q.goal) ≡ true) ⊎ (leb seconds x.arrival.time ≡ true) → seconds ≤ x.arrival.time
      at_the_goal x g (inl t) = absurd (true≢false (sym (eq-eqb _ _ g) ∙ not-true _ t))
      at_the_goal x g (inr t) = leb-true _ _ t

      go : Served q.kind ls a → seconds ≤ a.time
      go (x, (i, h, p), s) =
          let passes = subst (λ (y : Label L). no_sooner y ≡ true) (p x) (each_passes no_sooner ls e i x h) in
          let l = at_the_goal x (s.same_junction ∙ there) (or_cases _ _ passes) in
          omega (arith, l, s.no_later)

pub no_drivable_walk_is_faster_than_20_seconds : NoneFaster loop_query 20
unfolding labels
no_drivable_walk_is_faster_than_20_seconds = none_faster loop_query loop_query_is_valid labels invariant 20 refl

pub no_drivable_walk_beats_it : Unbeaten loop_query (charged 20 50 1)
unfolding labels
no_drivable_walk_beats_it = invariant.listed_begin_the_front.unbeaten (charged 20 50 1) (has_get_or (arrivals labels) 5 (charged 0 0 0) (omega arith))

leads : (a : Arrival Charge) (k : ℕ) (b : Arrival Charge) → a.junction < 2 → k < 12 → by_place loop_query 2 loop_place a k ≡ Some b → Leads loop_query a k b
leads a k b = by_place_leads loop_query loop_query_is_valid 2 loop_place loop_places a k b

pub twice_round_the_loop_arrives_after_20_seconds_with_50 : Drives loop_query (0 ∷ 0 ∷ 1 ∷ []) (charged 20 50 1)
twice_round_the_loop_arrives_after_20_seconds_with_50 =
    one_road_more (one_road_more (one_road_more empty_walk
    (leads (charged 0 100 0) 0 (charged 5 200 0) (omega arith) (omega arith) refl))
    (leads (charged 5 200 0) 0 (charged 10 300 0) (omega arith) (omega arith) refl))
    (leads (charged 10 300 0) 1 (charged 20 50 1) (omega arith) (omega arith) refl)
