-- A row tells the least time of each charge that it covers, and a charge that none covers has no walk once nothing waits.
use Rattle.std.proofs.Common.{◌≡◌, ℕ, zero, suc, ◌+◌, ◌-◌, ◌<◌, ◌≤◌, true, leb, ◌⊎◌, List, [], length, get_or, None, sym, refl, ap, ◌∙◌, subst, subst₂, inl, inr, arith}
use lib.ListN.{length-map}
use Rattle.std.proofs.ByRecursion.{has_get_or}
use Rattle.std.proofs.lemmas.List.{get_or-map}
use Rattle.std.proofs.lemmas.Bool.{leb-true, and_parts, cases_lt, cases_order}
use Rattle.loads.specs.declared.profile.Profile.{Profile}
use Rattle.loads.specs.Profile.{profiles, is_profile, rank_of}
use Rattle.loads.specs.ProfileLaws.{Bounds, bounds, both_and_no_worse, rank_is}
use Rattle.front.specs.declared.arrival.Arrival.{Arrival}
use Rattle.front.specs.declared.label.Label.{Label}
use Rattle.front.specs.Walks.{Drives, Walk, Reached}
use Rattle.front.specs.Front.{Before, sooner, higher_rank, lower_junction}
use Rattle.front.specs.Labels.{Served, WalkThroughLabels}
use Rattle.front.specs.Invariant.{Invariant}
use Rattle.front.proofs.Order.{equal_parts_equal_arrivals, before_is_no_later}
use Rattle.front.proofs.Walks.{reached_is_admitted, reached_is_a_load}
use Rattle.front.proofs.Labels.{label_gives_its_arrival}
use Rattle.front.proofs.ListedLabels.{labels_serve_what_is_reached_before_one, nothing_waits_so_labels_serve_all_reached}
use Rattle.front.proofs.Tracing.{listed_label_has_a_walk_through_labels}
use Rattle.charts.specs.declared.row.Row.{Row}
use Rattle.charts.specs.Trips.{Trip, ValidTrip, profile_query, arrival_at, DrivableWith}
use Rattle.charts.specs.Chart.{chart, row_of, Covers, TellsLeastTime, RowsTellLeastTimes, NoWalkWithoutARow}
use Rattle.charts.specs.Theorems.{row_at}
use Rattle.charts.proofs.Trips.{profile_query_is_valid, drivable_exactly_with_its_need}
use Rattle.charts.proofs.ChartRows.{no_label, least_before, under_the_row_before, under_is_not_above, RowOfLabel, its_label, its_number, later_rows_need_less, chart_is_a_chart, charge_that_meets_a_need_is_covered}

-- a lower need alone gives a higher rank
lower_need_ranks_higher : (f g : Profile) → Bounds f → Bounds g → f.need < g.need → rank_of g < rank_of f
lower_need_ranks_higher f g i j l = omega arith

admitted_need_is_at_most_the_capacity : (m : ℕ) (f : Profile) → (profiles m).admits f ≡ true → f.need ≤ m
admitted_need_is_at_most_the_capacity m f h =
    let p = and_parts (is_profile f) _ h in
    let r = and_parts (leb f.high m) _ p.1 in
    omega (arith, leb-true (f.need + (f.high - f.low)) m r.1)

module _ (t : Trip) (valid : ValidTrip t) (listed waiting : List (Label Profile)) (inv : Invariant (profile_query t) listed waiting) where
  label_is_reached : (i : ℕ) (d : Label Profile) → i < length listed → Reached (profile_query t) (get_or listed i d).arrival
  label_is_reached i d h = (inv.listed_begin_the_front.unbeaten (get_or listed i d).arrival (label_gives_its_arrival listed (get_or listed i d) (has_get_or listed i d h))).reached

  label_need_is_at_most_the_capacity : (i : ℕ) (d : Label Profile) → i < length listed → (get_or listed i d).arrival.load.need ≤ t.capacity
  label_need_is_at_most_the_capacity i d h = admitted_need_is_at_most_the_capacity t.capacity (get_or listed i d).arrival.load (reached_is_admitted (profile_query t) (profile_query_is_valid t valid) (get_or listed i d).arrival (label_is_reached i d h))

  label_bounds : (i : ℕ) (d : Label Profile) → i < length listed → Bounds (get_or listed i d).arrival.load
  label_bounds i d h = bounds (get_or listed i d).arrival.load (reached_is_a_load (profile_query t) (profile_query_is_valid t valid) (get_or listed i d).arrival (label_is_reached i d h))

  labels_are_in_order : (i j : ℕ) (d : Label Profile) → i < j → j < length listed → Before (profiles t.capacity) (get_or listed i d).arrival (get_or listed j d).arrival
  labels_are_in_order i j d l h = subst₂ (λ (x y : Arrival Profile). Before (profiles t.capacity) x y) (get_or-map (λ (x : Label Profile). x.arrival) listed i d d.arrival (omega arith)) (get_or-map (λ (x : Label Profile). x.arrival) listed j d d.arrival h) (inv.listed_begin_the_front.ordered i j d.arrival l (omega (arith, length-map listed (λ (x : Label Profile). x.arrival))))

  -- a later label that needs less takes longer
  later_with_less_need_takes_longer : (a c : Arrival Profile) → Bounds a.load → Bounds c.load → c.load.need < a.load.need → Before (profiles t.capacity) a c → a.time < c.time
  later_with_less_need_takes_longer a c i j l (sooner p) = p
  later_with_less_need_takes_longer a c i j l (higher_rank p r) = absurd (omega (arith, rank_is t.capacity a.load i, rank_is t.capacity c.load j, lower_need_ranks_higher c.load a.load j i l))
  later_with_less_need_takes_longer a c i j l (lower_junction p r s) = absurd (omega (arith, rank_is t.capacity a.load i, rank_is t.capacity c.load j, lower_need_ranks_higher c.load a.load j i l))

  pub later_rows_take_longer : (i j : ℕ) → i < j → j < length (chart t.goal listed) → (row_at t listed i).seconds < (row_at t listed j).seconds
  later_rows_take_longer i j l h =
      let c = chart_is_a_chart t.goal listed in
      let p = c.each_row_tells_its_label i no_label (omega arith) in
      let r = c.each_row_tells_its_label j no_label h in
      let n = (row_at t listed i).label in
      let k = (row_at t listed j).label in
      let lt : n < k = c.in_the_labels_order i j l h in
      let inside : k < length listed = (c.each_label_of_a_row_needs_less_than_all_earlier j h).is_listed in
      let g = later_with_less_need_takes_longer (get_or listed n no_label).arrival (get_or listed k no_label).arrival (label_bounds n no_label (omega arith)) (label_bounds k no_label inside) (omega (arith, ap (λ (x : Row). x.need) p, ap (λ (x : Row). x.need) r, later_rows_need_less t.goal listed i j l h)) (labels_are_in_order n k no_label lt inside) in
      omega (arith, g, ap (λ (x : Row). x.seconds) p, ap (λ (x : Row). x.seconds) r)

  covered_charge_is_admitted : (i b : ℕ) → Covers t.capacity (chart t.goal listed) i b → b ≤ t.capacity
  covered_charge_is_admitted zero b c = c.below_the_row_before
  covered_charge_is_admitted (suc i) b c =
      let f = its_label t.goal listed i (omega (arith, c.is_a_row)) in
      let e = ap (λ (r : Row). r.need) (f.row no_label) in
      let n = label_need_is_at_most_the_capacity f.place no_label f.is_listed in
      let u = c.below_the_row_before in
      omega arith

  -- a label at the goal that needs no more than b and arrives within s
  record ServesCharge (b s : ℕ) : Type 0 where
    number : ℕ
    is_listed : number < length listed
    at_goal : (d : Label Profile) → (get_or listed number d).arrival.junction ≡ t.goal
    needs_no_more : (d : Label Profile) → (get_or listed number d).arrival.load.need ≤ b
    no_later : (d : Label Profile) → (get_or listed number d).arrival.time ≤ s

  served_arrival_serves_charge : (b s : ℕ) (f : Profile) → f.need ≤ b → Served (profiles t.capacity) listed (arrival_at t.goal s f) → ServesCharge b s
  served_arrival_serves_charge b s f l (y, (j, h, e), v) = record {
    number = j;
    is_listed = h;
    at_goal = λ d. ap (λ (x : Label Profile). x.arrival.junction) (e d) ∙ v.same_junction;
    needs_no_more = λ d. omega (arith, ap (λ (x : Label Profile). x.arrival.load.need) (e d), (both_and_no_worse t.capacity y.arrival.load f v.as_good).no_worse.needs_no_more);
    no_later = λ d. omega (arith, ap (λ (x : Label Profile). x.arrival.time) (e d), v.no_later);
  }

  module _ (i b : ℕ) (c : Covers t.capacity (chart t.goal listed) i b) where
    admitted : b ≤ t.capacity
    admitted = covered_charge_is_admitted i b c

    of_label : RowOfLabel t.goal 0 None listed (chart t.goal listed) i
    of_label = its_label t.goal listed i c.is_a_row

    number_is : (row_at t listed i).label ≡ of_label.place
    unfolding of_label
    number_is = its_number t.goal listed i c.is_a_row

    label_is_listed : (row_at t listed i).label < length listed
    label_is_listed = omega (arith, number_is, of_label.is_listed)

    label_is_at_the_goal : (d : Label Profile) → (get_or listed (row_at t listed i).label d).arrival.junction ≡ t.goal
    label_is_at_the_goal d = ap (λ (k : ℕ). (get_or listed k d).arrival.junction) number_is ∙ of_label.at_goal d

    row_tells_label : (d : Label Profile) → row_at t listed i ≡ row_of (row_at t listed i).label (get_or listed (row_at t listed i).label d)
    row_tells_label d = (chart_is_a_chart t.goal listed).each_row_tells_its_label i d c.is_a_row

    label_takes_its_seconds : (d : Label Profile) → (get_or listed (row_at t listed i).label d).arrival.time ≡ (row_at t listed i).seconds
    label_takes_its_seconds d = sym (ap (λ (r : Row). r.seconds) (row_tells_label d))

    pub walk_of_its_label_takes_its_seconds : (d : Label Profile) (w : Walk) → WalkThroughLabels (profile_query t) listed (get_or listed (row_at t listed i).label d) w → DrivableWith t b w t.goal (row_at t listed i).seconds
    walk_of_its_label_takes_its_seconds d w through =
        let a : Arrival Profile = (get_or listed (row_at t listed i).label d).arrival in
        let e = equal_parts_equal_arrivals a (arrival_at t.goal (row_at t listed i).seconds a.load) (label_is_at_the_goal d) (label_takes_its_seconds d) refl in
        (drivable_exactly_with_its_need t valid b admitted w t.goal (row_at t listed i).seconds).1 (a.load, subst (λ (x : Arrival Profile). Drives (profile_query t) w x) e through.drives, omega (arith, ap (λ (r : Row). r.need) (row_tells_label d), c.from_its_need))

    some_walk_takes_its_seconds : (w : Walk) × DrivableWith t b w t.goal (row_at t listed i).seconds
    some_walk_takes_its_seconds =
        let (w, through) = listed_label_has_a_walk_through_labels (profile_query t) listed waiting inv (get_or listed (row_at t listed i).label no_label) (has_get_or listed (row_at t listed i).label no_label label_is_listed) in
        (w, walk_of_its_label_takes_its_seconds no_label w through)

    -- such a label is not sooner than the row: an earlier one needs more
    no_label_is_sooner : (s : ℕ) → s < (row_at t listed i).seconds → ServesCharge b s → ⊥
    no_label_is_sooner s l e = go (cases_order e.number of_label.place)
      where
        late : (get_or listed of_label.place no_label).arrival.time ≡ (row_at t listed i).seconds
        late = sym (ap (λ (r : Row). r.seconds) (of_label.row no_label))

        go : (e.number ≡ of_label.place) ⊎ ((e.number < of_label.place) ⊎ (of_label.place < e.number)) → ⊥
        go (inl o) = omega (arith, ap (λ (k : ℕ). (get_or listed k no_label).arrival.time) o, late, e.no_later no_label)
        go (inr (inl o)) = under_is_not_above t.capacity (least_before None (chart t.goal listed) i) _ b (under_the_row_before t.capacity (chart t.goal listed) i b c.below_the_row_before) (of_label.earlier_need_no_less e.number no_label o (e.at_goal no_label)) (e.needs_no_more no_label)
        go (inr (inr o)) = omega (arith, before_is_no_later (profiles t.capacity) _ _ (labels_are_in_order of_label.place e.number no_label o e.is_listed), late, e.no_later no_label)

    no_walk_is_faster : (w : Walk) (s : ℕ) → DrivableWith t b w t.goal s → (row_at t listed i).seconds ≤ s
    no_walk_is_faster w s drivable = go (cases_lt s (row_at t listed i).seconds)
      where
        go : (s < (row_at t listed i).seconds) ⊎ ((row_at t listed i).seconds ≤ s) → (row_at t listed i).seconds ≤ s
        go (inr l) = l
        go (inl l) =
            let (g, d, n) = (drivable_exactly_with_its_need t valid b admitted w t.goal s).0 drivable in
            let x : Label Profile = get_or listed (row_at t listed i).label no_label in
            let v = labels_serve_what_is_reached_before_one (profile_query t) (profile_query_is_valid t valid) listed waiting inv x (has_get_or listed (row_at t listed i).label no_label label_is_listed) (arrival_at t.goal s g) (w, d) (sooner (omega (arith, label_takes_its_seconds no_label))) in
            absurd (no_label_is_sooner s l (served_arrival_serves_charge b s g n v))

    tells_the_least_time : TellsLeastTime t (chart t.goal listed) i b
    tells_the_least_time = record { charge_is_admitted = admitted; some_walk_takes_its_seconds = some_walk_takes_its_seconds; no_walk_is_faster = no_walk_is_faster }

  pub rows_tell_least_times : RowsTellLeastTimes t (chart t.goal listed)
  rows_tell_least_times i b c = tells_the_least_time i b c

pub nothing_waits_so_no_walk_without_a_row : (t : Trip) (valid : ValidTrip t) (listed : List (Label Profile)) → Invariant (profile_query t) listed [] → NoWalkWithoutARow t (chart t.goal listed)
nothing_waits_so_no_walk_without_a_row t valid listed inv b admitted none_covers w s drivable =
    let (g, d, n) = (drivable_exactly_with_its_need t valid b admitted w t.goal s).0 drivable in
    let v = nothing_waits_so_labels_serve_all_reached (profile_query t) (profile_query_is_valid t valid) listed inv (arrival_at t.goal s g) (w, d) in
    let e = served_arrival_serves_charge t valid listed [] inv b s g n v in
    let (i, c) = charge_that_meets_a_need_is_covered t.goal listed t.capacity e.number b no_label e.is_listed (e.at_goal no_label) (e.needs_no_more no_label) admitted in
    none_covers i c
