-- A trip: a profile query, and the charge queries of all starting charges that it stands for.
use Rattle.std.specs.Prelude.{◌≡◌, ℕ, ◌≤◌, Some}
use Rattle.maps.specs.Rows.{Rows, Sound}
use Rattle.loads.specs.declared.charge.Charge.{Charge}
use Rattle.loads.specs.declared.profile.Profile.{Profile}
use Rattle.loads.specs.Charge.{charge, charges}
use Rattle.loads.specs.Profile.{plain, profiles}
use Rattle.front.specs.declared.arrival.Arrival.{Arrival}
use Rattle.front.specs.Walks.{Query, Drives, Walk}
use Rattle.charts.specs.Bridge.{read_at}

-- what a search is asked, but for the kind and the start load
pub record Trip : Type 0 where
  pub rows : Rows
  -- of the profile kind and of the charge kind alike
  pub capacity : ℕ
  pub start : ℕ
  pub goal : ℕ
  pub deadline : ℕ

-- the rows are a map's, and the capacity is one that the kinds take
pub record ValidTrip (t : Trip) : Type 0 where
  pub sound : Sound t.rows
  pub capacity_at_least_1 : 1 ≤ t.capacity
  pub capacity_at_most_100000 : t.capacity ≤ 100000

-- the trip under the profile kind, from its plain profile
abbrev pub profile_query : Trip → Query Profile
profile_query t = record { rows = t.rows; kind = profiles t.capacity; start = t.start; load = plain t.capacity; goal = t.goal; deadline = t.deadline }

-- the trip under the charge kind, from the charge b
abbrev pub charge_query : Trip → ℕ → Query Charge
charge_query t b = record { rows = t.rows; kind = charges t.capacity; start = t.start; load = charge b; goal = t.goal; deadline = t.deadline }

-- the arrival at junction v, after s seconds, with the load f
abbrev pub arrival_at : {L : Type 0} → ℕ → ℕ → L → Arrival L
arrival_at v s f = record { junction = v; time = s; load = f }

-- x is what a tells of a van that started with b: there, then, with the charge that a's profile has for it
pub record ReadAs (b : ℕ) (a : Arrival Profile) (x : Arrival Charge) : Type 0 where
  pub same_junction : a.junction ≡ x.junction
  pub same_time : a.time ≡ x.time
  pub charge_read : read_at b a.load ≡ Some x.load

-- the walk is drivable with the charge b, to junction v in s seconds
abbrev pub DrivableWith : Trip → ℕ → Walk → ℕ → ℕ → Type 0
DrivableWith t b w v s = (c : Charge) × Drives (charge_query t b) w (arrival_at v s c)
