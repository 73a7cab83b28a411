-- What a map means: the list of its rows, one for each junction, each of twelve places.
use Rattle.std.specs.Prelude.{◌≡◌, ℕ, ◌<◌, ◌≤◌, cond, not, List, [], map, length, pos, negsuc, ◌≤ℤ◌, Some, None, Ok, Err, Option, Result, nat_lt, slice_index_or}
use Rattle.std.specs.List.{range_with_len}
use Rattle.maps.specs.declared.road.Road.{Road}
use Rattle.refusals.specs.declared.refusal.Refusal.{Refusal}
use Rattle.refusals.specs.declared.refusal.Refusal.TheVariants.{JunctionOffMap, PlaceAboveEleven}

abbrev pub Rows : Type 0
Rows = List (List (Option Road))

-- what is at place k of junction v: a road, or none where the place is empty or there is no such place
unfoldable pub at : Rows → ℕ → ℕ → Option Road
at rows v k = slice_index_or (slice_index_or rows v []) k None

-- road e may stand on a map of n junctions
pub record Fits (n : ℕ) (e : Road) : Type 0 where
  pub head : e.head < n
  pub least : 1 ≤ e.seconds
  pub most : e.seconds ≤ 7200
  pub low : negsuc 99999 ≤ℤ e.draw
  pub high : e.draw ≤ℤ pos 100000

-- what holds of every map
pub record Sound (rows : Rows) : Type 0 where
  pub few : length rows ≤ 9600
  pub twelve : (v : ℕ) → v < length rows → length (slice_index_or rows v []) ≡ 12
  pub fits : (v k : ℕ) (e : Road) → at rows v k ≡ Some e → Fits (length rows) e

-- the first check that a question of place k of junction v fails, on a map of n junctions
abbrev pub place_refusal : ℕ → ℕ → ℕ → Option Refusal
place_refusal n v k = cond (not (nat_lt v n)) (Some JunctionOffMap) (cond (not (nat_lt k 12)) (Some PlaceAboveEleven) None)

-- the place question of a map of n junctions, where o is what is at the place
abbrev pub reply : ℕ → ℕ → ℕ → Option Road → Result (Option Road) Refusal
reply n v k o = cond (nat_lt v n) (cond (nat_lt k 12) (Ok o) (Err PlaceAboveEleven)) (Err JunctionOffMap)

abbrev pub answered : Rows → ℕ → ℕ → Result (Option Road) Refusal
answered rows v k = reply (length rows) v k (at rows v k)

-- the rows of n junctions whose place k of junction v is f v k
unfoldable pub tabulated : ℕ → (ℕ → ℕ → Option Road) → Rows
tabulated n f = map (λ v. map (f v) (range_with_len 0 12)) (range_with_len 0 n)

-- the rows of a layer over other rows: what is at each place, changed by g
unfoldable pub layered : (ℕ → ℕ → Option Road → Option Road) → Rows → Rows
layered g rows = tabulated (length rows) (λ v k. g v k (at rows v k))
