-- The theorems: a profile stands for all starting charges together, and a chart tells their least times.
use Rattle.std.specs.Prelude.{◌≡◌, ℕ, ◌<◌, ◌≤◌, true, ◌↔◌, List, [], length, get_or, slice_index_or}
use Rattle.maps.specs.declared.road.Road.{Road}
use Rattle.loads.specs.declared.charge.Charge.{Charge}
use Rattle.loads.specs.declared.profile.Profile.{Profile}
use Rattle.loads.specs.Charge.{charges}
use Rattle.loads.specs.Profile.{profiles}
use Rattle.front.specs.declared.arrival.Arrival.{Arrival}
use Rattle.front.specs.declared.label.Label.{Label}
use Rattle.front.specs.Walks.{Valid, Drives, Walk}
use Rattle.front.specs.Labels.{WalkThroughLabels}
use Rattle.front.specs.Invariant.{Invariant}
use Rattle.charts.specs.declared.row.Row.{Row}
use Rattle.charts.specs.Bridge.{read_at, and_then}
use Rattle.charts.specs.Trips.{Trip, ValidTrip, profile_query, charge_query, arrival_at, ReadAs, DrivableWith}
use Rattle.charts.specs.Chart.{chart, no_row, Covers, IsChart, RowsTellLeastTimes, NoWalkWithoutARow}

-- of the two kinds with the same capacity, m
pub record BridgeTheorems (m : ℕ) : Type 0 where
  -- to drive a profile and then read it at b is to read it at b and then drive that charge, also where either cannot be driven
  pub driving_then_reading_is_reading_then_driving : (f : Profile) (e : Road) (b : ℕ) → (profiles m).is_load f ≡ true → and_then ((profiles m).drive f e) (read_at b) ≡ and_then (read_at b f) (λ c. (charges m).drive c e)

-- of the walks of a trip, for each starting charge b that is admitted
pub record TripTheorems (t : Trip) : Type 0 where
  pub profile_query_is_valid : Valid (profile_query t)
  pub charge_query_is_valid : (b : ℕ) → b ≤ t.capacity → Valid (charge_query t b)
  -- a walk arrives with b exactly as the profile with which it arrives reads at b
  pub walk_arrives_as_its_profile_reads : (b : ℕ) → b ≤ t.capacity → (w : Walk) (x : Arrival Charge) → Drives (charge_query t b) w x ↔ ((a : Arrival Profile) × Drives (profile_query t) w a × ReadAs b a x)
  pub profile_of_a_walk_tells_its_arrivals : (w : Walk) (a : Arrival Profile) → Drives (profile_query t) w a → (b : ℕ) → b ≤ t.capacity → (x : Arrival Charge) → Drives (charge_query t b) w x ↔ ReadAs b a x
  -- so it is drivable with b exactly when its profile's need is at most b
  pub drivable_exactly_with_its_need : (b : ℕ) → b ≤ t.capacity → (w : Walk) (v s : ℕ) → DrivableWith t b w v s ↔ ((f : Profile) × Drives (profile_query t) w (arrival_at v s f) × (f.need ≤ b))

-- of the rows read off any labels
pub record RowTheorems (goal : ℕ) (listed : List (Label Profile)) : Type 0 where
  -- the chart that is computed is the one chart there is
  pub one_chart : (rows : List Row) → IsChart goal listed rows ↔ (rows ≡ chart goal listed)
  pub later_rows_need_less : (i j : ℕ) → i < j → j < length (chart goal listed) → (get_or (chart goal listed) j no_row).need < (get_or (chart goal listed) i no_row).need
  -- each charge up to the capacity m that meets the need of a label at the goal has a row, and no charge has two
  pub charge_that_meets_a_need_is_covered : (m n b : ℕ) (d : Label Profile) → n < length listed → (get_or listed n d).arrival.junction ≡ goal → (get_or listed n d).arrival.load.need ≤ b → b ≤ m → (i : ℕ) × Covers m (chart goal listed) i b
  pub charge_is_covered_by_one_row : (m i j b : ℕ) → Covers m (chart goal listed) i b → Covers m (chart goal listed) j b → i ≡ j

-- row i of a trip's chart
abbrev pub row_at : Trip → List (Label Profile) → ℕ → Row
row_at t listed i = slice_index_or (chart t.goal listed) i no_row

-- of a trip's chart, while its search goes on and once nothing waits any more
pub record ChartTheorems (t : Trip) : Type 0 where
  pub rows_tell_least_times : (listed waiting : List (Label Profile)) → Invariant (profile_query t) listed waiting → RowsTellLeastTimes t (chart t.goal listed)
  pub nothing_waits_so_no_walk_without_a_row : (listed : List (Label Profile)) → Invariant (profile_query t) listed [] → NoWalkWithoutARow t (chart t.goal listed)
  -- each walk that a row's label traces is drivable with each charge that the row covers, in the row's seconds
  pub walk_of_its_label_takes_its_seconds : (listed waiting : List (Label Profile)) → Invariant (profile_query t) listed waiting → (i b : ℕ) → Covers t.capacity (chart t.goal listed) i b
      → (d : Label Profile) (w : Walk) → WalkThroughLabels (profile_query t) listed (slice_index_or listed (row_at t listed i).label d) w → DrivableWith t b w t.goal (row_at t listed i).seconds
  pub later_rows_take_longer : (listed waiting : List (Label Profile)) → Invariant (profile_query t) listed waiting → (i j : ℕ) → i < j → j < length (chart t.goal listed) → (row_at t listed i).seconds < (row_at t listed j).seconds

-- they hold of every capacity, of all labels, and of every valid trip
pub record Theorems : Type 0 where
  pub bridge : (m : ℕ) → BridgeTheorems m
  pub rows : (goal : ℕ) (listed : List (Label Profile)) → RowTheorems goal listed
  pub trips : (t : Trip) → ValidTrip t → TripTheorems t
  pub charts : (t : Trip) → ValidTrip t → ChartTheorems t
