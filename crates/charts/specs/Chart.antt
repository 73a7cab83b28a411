-- The chart: over the goal's labels in order, a row for each need below all earlier ones.
use Rattle.std.specs.Prelude.{◌≡◌, ℕ, zero, suc, ◌<◌, ◌≤◌, Bool, true, cond, ◌&&◌, List, [], ◌∷◌, ◌++◌, length, get_or, Some, None, Option, ◌==◌, nat_lt, slice_index_or}
use Rattle.loads.specs.declared.profile.Profile.{Profile}
use Rattle.front.specs.declared.label.Label.{Label}
use Rattle.front.specs.Walks.{Walk}
use Rattle.charts.specs.declared.row.Row.{Row}
use Rattle.charts.specs.Trips.{Trip, DrivableWith}

-- whether a need is below the least one so far; there is none before the first row
abbrev pub below_least : ℕ → Option ℕ → Bool
below_least n None = true
below_least n (Some m) = nat_lt n m

-- whether a label gets a row: it is at the goal, and needs less than all earlier labels there
abbrev pub gets_row : ℕ → Option ℕ → Label Profile → Bool
gets_row goal least x = x.arrival.junction == goal && below_least x.arrival.load.need least

-- the row of label x, which has the number n
abbrev pub row_of : ℕ → Label Profile → Row
row_of n x = record { need = x.arrival.load.need; seconds = x.arrival.time; label = n }

-- the rows of the labels with the numbers from n on, when those before came down to the least need
abbrev pub rows_from : ℕ → ℕ → Option ℕ → List (Label Profile) → List Row
rows_from goal n least [] = []
rows_from goal n least (x ∷ xs) = cond (gets_row goal least x) (row_of n x ∷ []) [] ++ rows_from goal (suc n) (cond (gets_row goal least x) (Some x.arrival.load.need) least) xs

-- the rows of all listed labels
abbrev pub chart : ℕ → List (Label Profile) → List Row
chart goal listed = rows_from goal 0 None listed

-- what reading past the last row gives
abbrev pub no_row : Row
no_row = record { need = 0; seconds = 0; label = 0 }

-- b is below the need of the row before row i; for the first row, b is at most the capacity m
abbrev pub BelowRowBefore : ℕ → List Row → ℕ → ℕ → Type 0
BelowRowBefore m rows zero b = b ≤ m
BelowRowBefore m rows (suc i) b = b < (get_or rows i no_row).need

-- row i covers the charge b: from its need to one below the need of the row before
pub record Covers (m : ℕ) (rows : List Row) (i b : ℕ) : Type 0 where
  pub is_a_row : i < length rows
  pub from_its_need : (get_or rows i no_row).need ≤ b
  pub below_the_row_before : BelowRowBefore m rows i b

-- label n is at the goal, and needs less than all earlier labels there
pub record NeedsLessThanAllEarlier (goal : ℕ) (listed : List (Label Profile)) (n : ℕ) : Type 0 where
  pub is_listed : n < length listed
  pub at_goal : (d : Label Profile) → (get_or listed n d).arrival.junction ≡ goal
  pub needs_less : (j : ℕ) (d : Label Profile) → j < n → (get_or listed j d).arrival.junction ≡ goal → (get_or listed n d).arrival.load.need < (get_or listed j d).arrival.load.need

-- the rows are those of all labels at the goal that need less than all earlier ones there, in the labels' order
pub record IsChart (goal : ℕ) (listed : List (Label Profile)) (rows : List Row) : Type 0 where
  pub each_label_of_a_row_needs_less_than_all_earlier : (i : ℕ) → i < length rows → NeedsLessThanAllEarlier goal listed (get_or rows i no_row).label
  pub each_row_tells_its_label : (i : ℕ) (d : Label Profile) → i < length rows → slice_index_or rows i no_row ≡ row_of (get_or rows i no_row).label (slice_index_or listed (get_or rows i no_row).label d)
  pub each_label_that_needs_less_has_a_row : (n : ℕ) → NeedsLessThanAllEarlier goal listed n → (i : ℕ) × (i < length rows) × ((get_or rows i no_row).label ≡ n)
  pub in_the_labels_order : (i j : ℕ) → i < j → j < length rows → (get_or rows i no_row).label < (get_or rows j no_row).label

-- row i tells the least time in which the trip's goal is reached with the starting charge b
pub record TellsLeastTime (t : Trip) (rows : List Row) (i b : ℕ) : Type 0 where
  pub charge_is_admitted : b ≤ t.capacity
  pub some_walk_takes_its_seconds : (w : Walk) × DrivableWith t b w t.goal (get_or rows i no_row).seconds
  pub no_walk_is_faster : (w : Walk) (s : ℕ) → DrivableWith t b w t.goal s → (get_or rows i no_row).seconds ≤ s

-- each row tells the least time of each charge that it covers
abbrev pub RowsTellLeastTimes : Trip → List Row → Type 0
RowsTellLeastTimes t rows = (i b : ℕ) → Covers t.capacity rows i b → TellsLeastTime t rows i b

-- an admitted charge without a row has no drivable walk to the goal
abbrev pub NoWalkWithoutARow : Trip → List Row → Type 0
NoWalkWithoutARow t rows = (b : ℕ) → b ≤ t.capacity → ((i : ℕ) → Covers t.capacity rows i b → ⊥) → (w : Walk) (s : ℕ) → DrivableWith t b w t.goal s → ⊥
