-- The closures' table: entries that each shut one place, or are free.
use Rattle.std.specs.Prelude.{◌≡◌, ℕ, ◌<◌, Bool, true, false, ◌&&◌, List, is_some, Some, None, Option, ◌==◌, slice_index_or}
use Rattle.std.specs.List.{list_any, count_by}
use Rattle.maps.specs.declared.closures.ShutPlace.{ShutPlace}

-- an entry tells the place that it shuts, or is none where it is free
abbrev pub Entry : Type 0
Entry = Option ShutPlace

-- the entry that shuts place k of junction v
abbrev pub holding : ℕ → ℕ → Entry
holding v k = Some (record { junction = v; place = k })

-- whether an entry is the one wanted
abbrev pub is_like : Entry → Entry → Bool
is_like (Some s) (Some e) = e.junction == s.junction && e.place == s.place
is_like None None = true
is_like (Some s) None = false
is_like None (Some e) = false

abbrev pub holds : ℕ → ℕ → Entry → Bool
holds v k e = is_like (holding v k) e

-- whether some entry shuts place k of junction v
abbrev pub shut_at : List Entry → ℕ → ℕ → Bool
shut_at es v k = list_any (holds v k) es

-- two entries that shut one place
pub record ShutByBoth (es : List Entry) : Type 0 where
  pub junction : ℕ
  pub place : ℕ
  pub first : ℕ
  pub second : ℕ
  pub first_inside : first < 64
  pub second_inside : second < 64
  pub first_holds : holds junction place (slice_index_or es first None) ≡ true
  pub second_holds : holds junction place (slice_index_or es second None) ≡ true

-- no place is shut by two entries
abbrev pub NoneTwice : List Entry → Type 0
NoneTwice es = (both : ShutByBoth es) → both.first ≡ both.second

-- how many places are shut
abbrev pub shut_count : List Entry → ℕ
shut_count es = count_by is_some es
