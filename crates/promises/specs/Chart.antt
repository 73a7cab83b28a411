-- What chart promises.
use Rattle.std.specs.Prelude.{◌≡◌, ℕ, ◌<◌, ◌≤◌, Bool, false, cond, not, ◌&&◌, List, [], ◌∷◌, ◌++◌, length, take, drop, Some, None, Ok, Err, Option, Result, ◌==◌}
use Rattle.refusals.specs.declared.refusal.Refusal.{Refusal}
use Rattle.refusals.specs.declared.refusal.Refusal.TheVariants.{BufferTooShort, NotBegun, NotAsBegun, NotPlainProfile}
use Rattle.loads.specs.declared.profile.Profile.{Profile}
use Rattle.front.specs.declared.label.Label.{Label}
use Rattle.charts.specs.declared.row.Row.{Row}
use Rattle.charts.specs.Chart.{chart}
use Rattle.promises.specs.Numbers.{Numbers}

-- a chart: the capacity of its kind, the tables that it was lent, and its answer
pub record Charting : Type 0 where
  pub capacity : ℕ
  pub labels : List (Label Profile)
  pub rows : List Row
  pub rows_after : List Row
  pub answer : Result ℕ Refusal

abbrev pub charting : ℕ → List (Label Profile) → List Row → List Row → Result ℕ Refusal → Charting
charting capacity ls rows rows' r = record { capacity = capacity; labels = ls; rows = rows; rows_after = rows'; answer = r }

-- whether a profile is the plain one of this capacity
abbrev pub is_plain : ℕ → Profile → Bool
is_plain capacity f = f.need == 0 && (f.low == 0 && f.high == capacity)

-- whether label 0's load is the plain profile of this capacity
abbrev pub begins_plain : ℕ → List (Label Profile) → Bool
begins_plain capacity [] = false
begins_plain capacity (x ∷ xs) = is_plain capacity x.arrival.load

-- the first check that fails before the rows are looked at
abbrev pub chart_check : Numbers → ℕ → List (Label Profile) → Option Refusal
chart_check s capacity ls =
    cond (not s.begun) (Some NotBegun)
    (cond (not (length ls == s.room)) (Some NotAsBegun)
    (cond (not (begins_plain capacity ls)) (Some NotPlainProfile) None))

-- the answer to a chart whose first failing check is this, where these are the chart's rows
abbrev pub ChartAnswered : Option Refusal → List Row → List Row → List Row → Result ℕ Refusal → Type 0
ChartAnswered None chart rows rows' (Ok count) = (count ≡ length chart) × (length chart ≤ length rows) × (rows' ≡ chart ++ drop (length chart) rows)
ChartAnswered None chart rows rows' (Err e) = (e ≡ BufferTooShort (length chart)) × (length rows < length chart) × (rows' ≡ rows)
ChartAnswered (Some f) chart rows rows' (Ok count) = ⊥
ChartAnswered (Some f) chart rows rows' (Err e) = (e ≡ f) × (rows' ≡ rows)

-- the rows are those of the goal's listed labels: one for each need below all earlier ones
abbrev pub ChartPromise : Charting → Numbers → Type 0
ChartPromise c s =
    (1 ≤ c.capacity) × (c.capacity ≤ 100000)
    × ChartAnswered (chart_check s c.capacity c.labels) (chart s.goal (take s.listed c.labels)) c.rows c.rows_after c.answer
