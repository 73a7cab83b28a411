-- A test of labels that can be computed: they begin with the departure, each other one comes from an earlier one,
-- all their roads lead to arrivals that they serve, and they stand in order, none serving a later one.
use Rattle.std.proofs.Common.{ℕ, suc, Bool, true, false, not, ◌&&◌, ◌||◌, eqb, ltb, leb, List, [], ◌∷◌, get_or, Some, None, Option}
use Rattle.maps.specs.declared.road.Road.{Road}
use Rattle.loads.specs.Meaning.{Meaning}
use Rattle.front.specs.declared.arrival.Arrival.{Arrival}
use Rattle.front.specs.declared.label.Label.{Label}
use Rattle.front.specs.Walks.{Query, departure}
use Rattle.front.specs.OneRoad.{arrival_over_road}
use Rattle.worked.proofs.ListTests.{each, some, below}

module _ {L : Type 0} (m : Meaning L) where
  abbrev pub serves_test : Arrival L → Arrival L → Bool
  serves_test a b = eqb a.junction b.junction && (leb a.time b.time && m.as_good a.load b.load)

  abbrev pub same_test : Arrival L → Arrival L → Bool
  same_test a b = eqb a.junction b.junction && (eqb a.time b.time && (m.is_load a.load && (m.is_load b.load && eqb (m.rank a.load) (m.rank b.load))))

  abbrev pub before_test : Arrival L → Arrival L → Bool
  before_test a b = ltb a.time b.time || (eqb a.time b.time && (ltb (m.rank b.load) (m.rank a.load) || (eqb (m.rank a.load) (m.rank b.load) && ltb a.junction b.junction)))

  abbrev pub served_test : List (Label L) → Option (Arrival L) → Bool
  served_test ls None = true
  served_test ls (Some b) = some (λ (x : Label L). serves_test x.arrival b) ls

  abbrev pub arrives_test : Option (Arrival L) → Arrival L → Bool
  arrives_test None b = false
  arrives_test (Some a) b = same_test a b

  abbrev pub ordered_test : List (Label L) → Bool
  ordered_test [] = true
  ordered_test (x ∷ xs) = each (λ (y : Label L). before_test x.arrival y.arrival && not (serves_test x.arrival y.arrival)) xs && ordered_test xs

-- of the query q on a map of n junctions whose place k of junction v is f v k
module _ {L : Type 0} (q : Query L) (n : ℕ) (f : ℕ → ℕ → Option Road) where
  abbrev pub by_place : Arrival L → ℕ → Option (Arrival L)
  by_place a k = arrival_over_road q.kind q.deadline a (f a.junction k)

  -- label x, of number i, comes from an earlier one
  abbrev pub comes_test : List (Label L) → ℕ → Label L → Bool
  comes_test ls i x = ltb x.before i && (ltb x.place 12 && arrives_test q.kind (by_place (get_or ls x.before x).arrival x.place) x.arrival)

  -- the labels from number i on do
  abbrev pub come_test : List (Label L) → ℕ → List (Label L) → Bool
  come_test ls i [] = true
  come_test ls i (x ∷ xs) = comes_test ls i x && come_test ls (suc i) xs

  abbrev pub departs_test : List (Label L) → Bool
  departs_test [] = false
  departs_test (x ∷ xs) = same_test q.kind x.arrival (departure q) && come_test (x ∷ xs) 1 xs

  abbrev pub closed_test : List (Label L) → Label L → Bool
  closed_test ls x = ltb x.arrival.junction n && below (λ k. served_test q.kind ls (by_place x.arrival k)) 12

  abbrev pub front_test : List (Label L) → Bool
  front_test ls = departs_test ls && (each (closed_test ls) ls && ordered_test q.kind ls)
