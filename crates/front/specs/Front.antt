-- The front of a query: its unbeaten arrivals, in order.
use Rattle.std.specs.Prelude.{◌≡◌, ℕ, ◌<◌, ◌≤◌, true, List, length, slice_index_or}
use Rattle.std.specs.List.{ContainsAt as Has}
use Rattle.loads.specs.Meaning.{Meaning}
use Rattle.front.specs.Walks.{Query, Arrival, Reached}

-- a is at b's junction, no later, with a load as good
pub record Serves {L : Type 0} (m : Meaning L) (a b : Arrival L) : Type 0 where
  pub same_junction : a.junction ≡ b.junction
  pub no_later : a.time ≤ b.time
  pub as_good : m.as_good a.load b.load ≡ true

-- a serves b, and is another arrival
pub record Beats {L : Type 0} (m : Meaning L) (a b : Arrival L) : Type 0 where
  pub serves : Serves m a b
  pub differ : a ≡ b → ⊥

-- a is reached, and no arrival that is reached beats it
pub record Unbeaten {L : Type 0} (q : Query L) (a : Arrival L) : Type 0 where
  pub reached : Reached q a
  pub not_beaten : (b : Arrival L) → Reached q b → Beats q.kind b a → ⊥

-- the front's order: time rising, then rank falling, then junction rising
pub data Before {L : Type 0} (m : Meaning L) (a b : Arrival L) : Type 0 where
  sooner : a.time < b.time → Before m a b
  higher_rank : a.time ≡ b.time → m.rank b.load < m.rank a.load → Before m a b
  lower_junction : a.time ≡ b.time → m.rank a.load ≡ m.rank b.load → a.junction < b.junction → Before m a b

-- xs are the first arrivals of the front, however many: each is unbeaten, they stand in order, and no unbeaten arrival before one of them is left out
pub record FrontBegins {L : Type 0} (q : Query L) (xs : List (Arrival L)) : Type 0 where
  pub unbeaten : (a : Arrival L) → Has xs a → Unbeaten q a
  pub ordered : (i j : ℕ) (d : Arrival L) → i < j → j < length xs → Before q.kind (slice_index_or xs i d) (slice_index_or xs j d)
  pub unskipped : (a b : Arrival L) → Unbeaten q a → Has xs b → Before q.kind a b → Has xs a

-- xs are all of them
pub record IsFront {L : Type 0} (q : Query L) (xs : List (Arrival L)) : Type 0 where
  pub begins : FrontBegins q xs
  pub all : (a : Arrival L) → Unbeaten q a → Has xs a
