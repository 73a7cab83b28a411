-- The theorems, together.
use Rattle.charts.specs.Theorems.{Theorems}
use Rattle.charts.proofs.Bridge.{driving_then_reading_is_reading_then_driving}
use Rattle.charts.proofs.Trips.{profile_query_is_valid, charge_query_is_valid, walk_arrives_as_its_profile_reads, profile_of_a_walk_tells_its_arrivals, drivable_exactly_with_its_need}
use Rattle.charts.proofs.ChartRows.{later_rows_need_less, charge_that_meets_a_need_is_covered, charge_is_covered_by_one_row}
use Rattle.charts.proofs.OneChart.{one_chart}
use Rattle.charts.proofs.LeastTimes.{rows_tell_least_times, nothing_waits_so_no_walk_without_a_row, walk_of_its_label_takes_its_seconds, later_rows_take_longer}

pub theorems : Theorems
theorems = record {
  bridge = λ m. record { driving_then_reading_is_reading_then_driving = driving_then_reading_is_reading_then_driving m };
  rows = λ goal listed. record {
    one_chart = one_chart goal listed;
    later_rows_need_less = later_rows_need_less goal listed;
    charge_that_meets_a_need_is_covered = charge_that_meets_a_need_is_covered goal listed;
    charge_is_covered_by_one_row = charge_is_covered_by_one_row goal listed;
  };
  trips = λ t valid. record {
    profile_query_is_valid = profile_query_is_valid t valid;
    charge_query_is_valid = charge_query_is_valid t valid;
    walk_arrives_as_its_profile_reads = walk_arrives_as_its_profile_reads t valid;
    profile_of_a_walk_tells_its_arrivals = profile_of_a_walk_tells_its_arrivals t valid;
    drivable_exactly_with_its_need = drivable_exactly_with_its_need t valid;
  };
  charts = λ t valid. record {
    rows_tell_least_times = rows_tell_least_times t valid;
    nothing_waits_so_no_walk_without_a_row = nothing_waits_so_no_walk_without_a_row t valid;
    walk_of_its_label_takes_its_seconds = walk_of_its_label_takes_its_seconds t valid;
    later_rows_take_longer = later_rows_take_longer t valid;
  };
}
