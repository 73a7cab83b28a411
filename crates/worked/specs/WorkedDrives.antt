-- The worked drives, as facts about the rules.
use Rattle.std.specs.Prelude.{◌≡◌, ℕ, ◌≤◌, List, [], ◌∷◌, length, take, pos, negsuc, Some, None, slice_index_or}
use Rattle.maps.specs.declared.road.Road.{Road}
use Rattle.maps.specs.Rows.{Sound}
use Rattle.maps.specs.Heater.{extra, heated_rows}
use Rattle.loads.specs.declared.charge.Charge.{Charge}
use Rattle.loads.specs.declared.profile.Profile.{Profile}
use Rattle.loads.specs.Charge.{charge, charges}
use Rattle.loads.specs.Profile.{profile, plain, profiles}
use Rattle.worked.specs.SeveralRoads.{driven_over}
use Rattle.front.specs.declared.label.Label.{Label}
use Rattle.front.specs.Walks.{Drives, Walk}
use Rattle.front.specs.Front.{Unbeaten, FrontBegins, IsFront}
use Rattle.front.specs.Labels.{arrivals}
use Rattle.charts.specs.Trips.{profile_query, DrivableWith}
use Rattle.charts.specs.Chart.{chart, Covers, RowsTellLeastTimes, NoWalkWithoutARow}
use Rattle.promises.specs.declared.standing.Standing.TheVariants.{Arrived, Ended, Full}
use Rattle.promises.specs.Advance.{EveryUnbeatenListed, SomeUnbeatenUnlisted}
use Rattle.promises.specs.Law.{NoneFaster}
use Rattle.worked.specs.WorkedMaps.{worked_rows, loop_rows}
use Rattle.worked.specs.WorkedQuery.{charged, query_on, worked_query, worked_front, progress, AdvanceAnswers}
use Rattle.worked.specs.WorkedTrip.{worked_trip, worked_profile_front, worked_chart, LeastTime}
use Rattle.worked.specs.LoopQuery.{loop_query}

pub record WorkedDrives : Type 0 where
  pub worked_map_is_sound : Sound worked_rows
  -- the front, without a heater and under one of 0 watts
  pub front_of_the_worked_query : IsFront worked_query worked_front
  pub front_under_a_heater_of_0_watts : IsFront (query_on (heated_rows 0 worked_rows)) worked_front
  -- five labels end
  pub five_labels_list_every_unbeaten_arrival : (ls : List (Label Charge)) → length ls ≡ 5 → FrontBegins worked_query (arrivals (take 5 ls)) → EveryUnbeatenListed worked_query ls 5
  pub first_advance_over_five_labels_arrives_with_label_3 : AdvanceAnswers 5 1 (progress (Arrived 3) 3 4)
  pub next_advance_over_five_labels_arrives_with_label_4 : AdvanceAnswers 5 4 (progress (Arrived 4) 1 5)
  pub last_advance_over_five_labels_ends : AdvanceAnswers 5 5 (progress Ended 0 5)
  -- four are full after 70 seconds
  pub four_labels_leave_an_unbeaten_arrival_unlisted : (ls : List (Label Charge)) → length ls ≡ 4 → FrontBegins worked_query (arrivals (take 4 ls)) → SomeUnbeatenUnlisted worked_query ls 4
  pub last_of_four_labels_is_at_the_goal_after_70_seconds : (ls : List (Label Charge)) (d : Label Charge) → length ls ≡ 4 → FrontBegins worked_query (arrivals (take 4 ls)) → (slice_index_or ls 3 d).arrival ≡ charged 70 50 3
  pub first_advance_over_four_labels_arrives_with_label_3 : AdvanceAnswers 4 1 (progress (Arrived 3) 3 4)
  pub next_advance_over_four_labels_is_full : AdvanceAnswers 4 4 (progress Full 0 4)
  -- the chart: 950 gives 70, 700 gives 110, 699 has no row
  pub front_of_the_worked_trip : IsFront (profile_query worked_trip) worked_profile_front
  pub chart_of_the_worked_trip : (ls : List (Label Profile)) → IsFront (profile_query worked_trip) (arrivals ls) → chart worked_trip.goal ls ≡ worked_chart
  pub its_rows_tell_least_times : RowsTellLeastTimes worked_trip worked_chart
  pub no_walk_without_a_row : NoWalkWithoutARow worked_trip worked_chart
  pub from_950_on_the_least_time_is_70 : (b : ℕ) → 950 ≤ b → b ≤ 1000 → LeastTime worked_trip b 70
  pub from_700_to_949_the_least_time_is_110 : (b : ℕ) → 700 ≤ b → b ≤ 949 → LeastTime worked_trip b 110
  pub up_to_699_there_is_no_row : (i b : ℕ) → b ≤ 699 → Covers worked_trip.capacity worked_chart i b → ⊥
  pub up_to_699_there_is_no_drivable_walk : (b : ℕ) → b ≤ 699 → (w : Walk) (s : ℕ) → DrivableWith worked_trip b w worked_trip.goal s → ⊥
  -- a draw that a later descent would give back, and a descent when nearly full
  pub charge_500_over_600_then_minus_500_is_not_drivable : (e e' : Road) → e.draw ≡ pos 600 → e'.draw ≡ negsuc 499 → driven_over (charges 1000) (Some (charge 500)) (e ∷ e' ∷ []) ≡ None
  pub plain_profile_over_600 : (e : Road) → e.draw ≡ pos 600 → (profiles 1000).drive (plain 1000) e ≡ Some (profile 600 0 400)
  pub then_over_minus_500 : (e : Road) → e.draw ≡ negsuc 499 → (profiles 1000).drive (profile 600 0 400) e ≡ Some (profile 600 500 900)
  pub charge_900_over_minus_400_is_1000 : (e : Road) → e.draw ≡ negsuc 399 → (charges 1000).drive (charge 900) e ≡ Some (charge 1000)
  -- twice round the loop, then on
  pub loop_map_is_sound : Sound loop_rows
  pub twice_round_the_loop_arrives_after_20_seconds_with_50 : Drives loop_query (0 ∷ 0 ∷ 1 ∷ []) (charged 20 50 1)
  pub no_drivable_walk_beats_it : Unbeaten loop_query (charged 20 50 1)
  pub no_drivable_walk_is_faster_than_20_seconds : NoneFaster loop_query 20
  -- the heater rounds up
  pub heater_of_1000_watts_for_60_seconds_adds_17 : extra 1000 60 ≡ 17
  pub heater_of_100_watts_for_36_seconds_adds_1 : extra 100 36 ≡ 1
