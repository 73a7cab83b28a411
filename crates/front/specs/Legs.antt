-- A walk told leg by leg: the junction left, the place driven, and the time and load of the arrival.
use Rattle.std.specs.Prelude.{◌≡◌, ℕ, ◌<◌, List, [], ◌∷◌, ◌++◌, map, length}
use Rattle.std.specs.List.{HoldsAt}
pub use Rattle.front.specs.declared.leg.Leg.{Leg}
use Rattle.front.specs.Walks.{Query, Arrival, Leads, Walk, departure}

-- entry i of a table is x
abbrev pub Stored : {X : Type 0} → List X → ℕ → X → Type 0
Stored xs i x = (i < length xs) × HoldsAt (λ y. y ≡ x) xs i

-- the leg from a by place k to b
abbrev pub leg_of : {L : Type 0} → Arrival L → ℕ → Arrival L → Leg L
leg_of a k b = record { junction = a.junction; place = k; time = b.time; load = b.load }

-- the legs are those of a drivable walk from the start, which arrives as told
pub data DrivesLegs {L : Type 0} (q : Query L) : List (Leg L) → Arrival L → Type 0 where
  no_leg : DrivesLegs q [] (departure q)
  one_leg_more : {w : List (Leg L)} {a b : Arrival L} {k : ℕ} → DrivesLegs q w a → Leads q a k b → DrivesLegs q (w ++ leg_of a k b ∷ []) b

-- the walk that the legs tell
abbrev pub places : {L : Type 0} → List (Leg L) → Walk
places w = map (λ l. l.place) w
