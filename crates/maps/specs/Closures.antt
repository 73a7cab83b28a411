-- Closures: a shut place is empty, and all others are as on the map below.
use Rattle.std.specs.Prelude.{◌≡◌, ℕ, ◌+◌, Bool, false, cond, not, ◌&&◌, ◌||◌, List, length, Some, None, Option, ◌==◌}
use Rattle.refusals.specs.declared.refusal.Refusal.{Refusal}
use Rattle.refusals.specs.declared.refusal.Refusal.TheVariants.{PlaceAlreadyShut, PlaceNotShut, SixtyFourShut}
use Rattle.maps.specs.declared.road.Road.{Road}
use Rattle.maps.specs.Rows.{Rows, at, layered, place_refusal}
use Rattle.maps.specs.FirstFailure.{or_else}
use Rattle.maps.specs.Entries.{Entry, shut_at, shut_count}

abbrev pub open_place : List Entry → ℕ → ℕ → Option Road → Option Road
open_place es v k o = cond (shut_at es v k) None o

-- the rows that are left open of the rows below
abbrev pub open_rows : List Entry → Rows → Rows
open_rows es rows = layered (open_place es) rows

-- the first check that a shut of place k of junction v fails, on a map of n junctions
abbrev pub shut_refusal : ℕ → List Entry → ℕ → ℕ → Option Refusal
shut_refusal n es v k =
    or_else (place_refusal n v k)
    (cond (shut_at es v k) (Some PlaceAlreadyShut)
    (cond (shut_count es == 64) (Some SixtyFourShut) None))

abbrev pub reopen_refusal : ℕ → List Entry → ℕ → ℕ → Option Refusal
reopen_refusal n es v k =
    or_else (place_refusal n v k)
    (cond (not (shut_at es v k)) (Some PlaceNotShut) None)

abbrev pub same_place : ℕ → ℕ → ℕ → ℕ → Bool
same_place v k v' k' = v == v' && k == k'

-- of the shut places, that one came to them, and no other
pub record OneMoreShut (v k : ℕ) (es es' : List Entry) : Type 0 where
  pub shut : (v' k' : ℕ) → shut_at es' v' k' ≡ (same_place v k v' k' || shut_at es v' k')
  pub count : shut_count es' ≡ shut_count es + 1

-- of the shut places, that one is gone, and no other
pub record OneLessShut (v k : ℕ) (es es' : List Entry) : Type 0 where
  pub shut : (v' k' : ℕ) → shut_at es' v' k' ≡ (not (same_place v k v' k') && shut_at es v' k')
  pub count : shut_count es ≡ shut_count es' + 1

-- place k of junction v is o, and every other place is as before
pub record OnePlaceChanged (v k : ℕ) (o : Option Road) (before after : Rows) : Type 0 where
  pub junctions : length after ≡ length before
  pub there : at after v k ≡ o
  pub elsewhere : (v' k' : ℕ) → same_place v k v' k' ≡ false → at after v' k' ≡ at before v' k'
