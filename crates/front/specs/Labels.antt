-- Labels: arrivals, each with the number of the label before it and the place driven from there.
use Rattle.std.specs.Prelude.{ℕ, ◌<◌, ◌≤◌, List, [], ◌∷◌, ◌++◌, map, length, take, slice_index_or}
use Rattle.std.specs.List.{ContainsAt as Has}
use Rattle.loads.specs.Meaning.{Meaning}
pub use Rattle.front.specs.declared.label.Label.{Label}
use Rattle.front.specs.Walks.{Query, Arrival, Leads, Drives, Walk}
use Rattle.front.specs.Front.{Serves}
use Rattle.front.specs.Legs.{Leg, Stored, leg_of, DrivesLegs}

-- the arrivals of labels
abbrev pub arrivals : {L : Type 0} → List (Label L) → List (Arrival L)
arrivals xs = map (λ x. x.arrival) xs

-- some label of xs serves a
abbrev pub Served : {L : Type 0} → Meaning L → List (Label L) → Arrival L → Type 0
Served {L} m xs a = (x : Label L) × Has xs x × Serves m x.arrival a

-- x comes by one drivable road from the label before it, one of the first n of xs
pub record ComesFrom {L : Type 0} (q : Query L) (xs : List (Label L)) (n : ℕ) (x : Label L) : Type 0 where
  pub earlier : x.before < n
  pub leads : (d : Label L) → Leads q (slice_index_or xs x.before d).arrival x.place x.arrival

-- the legs that the links of label j trace: none for label 0, and one leg more than the label before for each other
pub data Traces {L : Type 0} (ls : List (Label L)) : ℕ → List (Leg L) → Type 0 where
  start_label : Traces ls 0 []
  one_label_more : (j : ℕ) (x y : Label L) (w : List (Leg L)) → 0 < j → Stored ls j y → y.before < j → Stored ls y.before x → Traces ls y.before w → Traces ls j (w ++ leg_of x.arrival y.place y.arrival ∷ [])

-- the legs drive to label x, entry i of the table, and every beginning of the walk arrives at a label no later in the table
pub record TracedWalk {L : Type 0} (q : Query L) (ls : List (Label L)) (i : ℕ) (x : Label L) (w : List (Leg L)) : Type 0 where
  pub drives : DrivesLegs q w x.arrival
  pub beginnings : (k : ℕ) → k ≤ length w → (j : ℕ) × (y : Label L) × (j ≤ i) × Stored ls j y × DrivesLegs q (take k w) y.arrival

-- the same of a walk that is told by its places alone: it drives to label x, and every beginning of it arrives at a label of the table
pub record WalkThroughLabels {L : Type 0} (q : Query L) (ls : List (Label L)) (x : Label L) (w : Walk) : Type 0 where
  pub drives : Drives q w x.arrival
  pub beginnings : (k : ℕ) → k ≤ length w → (y : Label L) × Has ls y × Drives q (take k w) y.arrival
