-- Walks from the start of a query, and where they arrive.
use Rattle.std.specs.Prelude.{◌≡◌, ℕ, ◌+◌, ◌≤◌, true, List, [], ◌∷◌, ◌++◌, Some}
use Rattle.maps.specs.declared.road.Road.{Road}
use Rattle.maps.specs.Rows.{Rows, Sound, at}
use Rattle.loads.specs.Meaning.{Meaning}
use Rattle.loads.specs.Laws.{Laws}
pub use Rattle.front.specs.declared.arrival.Arrival.{Arrival}

-- what a search is asked: the rows of a map, the meaning of a load kind, and from where, with what, to where and by when
pub record Query (L : Type 0) : Type 0 where
  pub rows : Rows
  pub kind : Meaning L
  pub start : ℕ
  pub load : L
  pub goal : ℕ
  pub deadline : ℕ

-- the rows are a map's, the kind keeps the laws, and it admits the start load
pub record Valid {L : Type 0} (q : Query L) : Type 0 where
  pub sound : Sound q.rows
  pub lawful : Laws q.kind
  pub admitted : q.kind.admits q.load ≡ true

-- the arrival of the empty walk: at the start, after no time, with the start load
abbrev pub departure : {L : Type 0} → Query L → Arrival L
departure q = record { junction = q.start; time = 0; load = q.load }

-- place k of a's junction holds a road that a's load can drive, and it arrives as b within the deadline
pub record Leads {L : Type 0} (q : Query L) (a : Arrival L) (k : ℕ) (b : Arrival L) : Type 0 where
  pub road : Road
  pub at_place : at q.rows a.junction k ≡ Some road
  pub driven : q.kind.drive a.load road ≡ Some b.load
  pub at_head : b.junction ≡ road.head
  pub seconds_later : b.time ≡ a.time + road.seconds
  pub within_deadline : b.time ≤ q.deadline

-- a walk is the list of the places driven, the first one first
abbrev pub Walk : Type 0
Walk = List ℕ

-- the walk is drivable, and arrives as told
pub data Drives {L : Type 0} (q : Query L) : Walk → Arrival L → Type 0 where
  empty_walk : Drives q [] (departure q)
  one_road_more : {w : Walk} {a b : Arrival L} {k : ℕ} → Drives q w a → Leads q a k b → Drives q (w ++ k ∷ []) b

-- some drivable walk arrives so
abbrev pub Reached : {L : Type 0} → Query L → Arrival L → Type 0
Reached q a = (w : Walk) × Drives q w a
