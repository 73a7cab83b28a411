-- The theorems, together.
use Rattle.front.specs.Walks.{Query, Valid}
use Rattle.front.specs.Theorems.{WalkTheorems, FrontTheorems, SearchTheorems, Theorems}
use Rattle.front.proofs.OneRoad.{leads_to_arrival_by_place, arrival_by_place_leads, leading_place_is_below_twelve}
use Rattle.front.proofs.Walks.{walk_has_one_arrival}
use Rattle.front.proofs.NextCandidate.{next_candidate_is_the_next_of_the_front, next_candidate_is_unlisted, unbeaten_one_road_before_the_next_is_listed, each_road_to_the_next_waits}
use Rattle.front.proofs.Steps.{departure_begins_the_front, begins_with_the_empty_walk, listing_keeps_the_invariant, dropping_served_candidates_keeps_the_invariant}
use Rattle.front.proofs.ListedLabels.{nothing_waits_so_the_front_is_listed, nothing_waits_so_labels_serve_all_reached, junction_without_label_is_not_reached, labels_serve_what_is_reached_before_one, first_label_at_a_junction_is_the_fastest}
use Rattle.front.proofs.OneBeginning.{beginnings_agree, one_beginning_of_each_length, no_beginning_is_longer_than_the_front, one_front}
use Rattle.front.proofs.Legs.{legs_drive_their_places, drivable_walk_has_legs, walk_has_one_list_of_legs}
use Rattle.front.proofs.Tracing.{links_trace_one_walk, links_of_a_listed_label_trace_a_walk_to_it, listed_label_has_a_walk_through_labels}

module _ {L : Type 0} (q : Query L) (valid : Valid q) where
  pub walk_theorems : WalkTheorems q
  walk_theorems = record {
    place_leads_where_its_road_arrives = λ a b k. (leads_to_arrival_by_place q a k b, arrival_by_place_leads q a k b);
    leading_place_is_below_twelve = λ a b k l. leading_place_is_below_twelve q a valid k b l;
    walk_has_one_arrival = walk_has_one_arrival q;
    legs_drive_their_places = λ w a d. legs_drive_their_places q d;
    drivable_walk_has_legs = λ v a d. drivable_walk_has_legs q d;
    walk_has_one_list_of_legs = walk_has_one_list_of_legs q;
  }

  pub front_theorems : FrontTheorems q
  front_theorems = record {
    departure_begins_the_front = departure_begins_the_front q valid;
    beginnings_agree = beginnings_agree q valid;
    one_beginning_of_each_length = one_beginning_of_each_length q valid;
    no_beginning_is_longer_than_the_front = no_beginning_is_longer_than_the_front q valid;
    one_front = one_front q valid;
  }

  pub search_theorems : SearchTheorems q
  search_theorems = record {
    begins_with_the_empty_walk = begins_with_the_empty_walk q valid;
    next_candidate_is_the_next_of_the_front = next_candidate_is_the_next_of_the_front q valid;
    next_candidate_is_unlisted = next_candidate_is_unlisted q valid;
    listing_keeps_the_invariant = listing_keeps_the_invariant q valid;
    dropping_served_candidates_keeps_the_invariant = dropping_served_candidates_keeps_the_invariant q;
    nothing_waits_so_the_front_is_listed = nothing_waits_so_the_front_is_listed q valid;
    nothing_waits_so_labels_serve_all_reached = nothing_waits_so_labels_serve_all_reached q valid;
    junction_without_label_is_not_reached = junction_without_label_is_not_reached q valid;
    labels_serve_what_is_reached_before_one = labels_serve_what_is_reached_before_one q valid;
    first_label_at_a_junction_is_the_fastest = first_label_at_a_junction_is_the_fastest q valid;
    unbeaten_one_road_before_the_next_is_listed = unbeaten_one_road_before_the_next_is_listed q valid;
    each_road_to_the_next_waits = each_road_to_the_next_waits q valid;
    links_trace_one_walk = links_trace_one_walk;
    links_of_a_listed_label_trace_a_walk_to_it = links_of_a_listed_label_trace_a_walk_to_it q;
    listed_label_has_a_walk_through_labels = listed_label_has_a_walk_through_labels q;
  }

pub theorems : (L : Type 0) → Theorems L
theorems L q valid = (walk_theorems q valid, front_theorems q valid, search_theorems q valid)
