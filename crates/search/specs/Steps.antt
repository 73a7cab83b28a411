-- What the small steps of a search do. Nothing on this page has to be believed: the promises do not speak of it.
use Rattle.std.specs.Prelude.{◌≡◌, ℕ, ◌<◌, Bool, true, false, cond, ◌&&◌, ◌⊎◌, List, ◌∷◌, Some, None, Ok, Err, Option, Result, ◌==◌, nat_le}
use Rattle.std.specs.Option.{option_map}
use Rattle.std.specs.List.{ContainsAt as Has, list_any}
use Rattle.refusals.specs.declared.refusal.Refusal.{Refusal}
use Rattle.refusals.specs.declared.refusal.Refusal.TheVariants.{NotBegun, NotAsBegun}
use Rattle.maps.specs.Rows.{Rows}
use Rattle.loads.specs.Meaning.{Meaning}
use Rattle.front.specs.declared.arrival.Arrival.{Arrival}
use Rattle.front.specs.declared.label.Label.{Label}
use Rattle.front.specs.OneRoad.{arrival_by_place}
use Rattle.promises.specs.declared.candidate.Candidate.{Candidate}
use Rattle.search.specs.declared.search.Underway.{Underway}

-- what a search keeps that has begun with so many labels
abbrev pub begun_with : Option Underway → ℕ → Result Underway Refusal
begun_with None n = Err NotBegun
begun_with (Some r) n = cond (n == r.room) (Ok r) (Err NotAsBegun)

-- whether label x serves a: it is at a's junction, no later, with a load as good
abbrev pub label_serves : {L : Type 0} → Meaning L → Arrival L → Label L → Bool
label_serves m a x = x.arrival.junction == a.junction && (nat_le x.arrival.time a.time && m.as_good x.arrival.load a.load)

-- whether some label of xs serves a
abbrev pub served_by : {L : Type 0} → Meaning L → List (Label L) → Arrival L → Bool
served_by m xs a = list_any (label_serves m a) xs

-- the candidate that arrives as b from label n by place k
abbrev pub candidate : {L : Type 0} → Meaning L → ℕ → ℕ → Arrival L → Candidate L
candidate m n k b = record { label = record { arrival = b; before = n; place = k }; rank = m.rank b.load }

-- the candidate that place k of label n offers, which arrives as a, if its road can be driven within the deadline
abbrev pub offer : {L : Type 0} → Rows → Meaning L → ℕ → Arrival L → ℕ → ℕ → Option (Candidate L)
offer rows m deadline a n k = option_map (candidate m n k) (arrival_by_place rows m deadline a k)

-- cs' is cs with the first n offers
pub record GrownBy {X : Type 0} (offers : ℕ → Option X) (n : ℕ) (cs cs' : List X) : Type 0 where
  pub each_waited_or_was_offered : (d : X) → Has cs' d → Has cs d ⊎ ((k : ℕ) × (k < n) × (offers k ≡ Some d))
  pub what_waited_waits : (d : X) → Has cs d → Has cs' d
  pub what_was_offered_waits : (k : ℕ) (d : X) → k < n → offers k ≡ Some d → Has cs' d

-- cs' is cs without some that a listed label serves
pub record Dropped {L : Type 0} (m : Meaning L) (listed : List (Label L)) (cs cs' : List (Candidate L)) : Type 0 where
  pub each_waited : (d : Candidate L) → Has cs' d → Has cs d
  pub what_waited_is_served_or_waits : (d : Candidate L) → Has cs d → (served_by m listed d.label.arrival ≡ true) ⊎ Has cs' d

-- c was taken, which no listed label serves, and cs' is left
pub record Taken {L : Type 0} (m : Meaning L) (listed : List (Label L)) (cs : List (Candidate L)) (c : Candidate L) (cs' : List (Candidate L)) : Type 0 where
  pub dropped_before_it : Dropped m listed cs (c ∷ cs')
  pub not_served : served_by m listed c.label.arrival ≡ false

abbrev pub EachServed : {L : Type 0} → Meaning L → List (Label L) → List (Candidate L) → Type 0
EachServed {L} m listed cs = (d : Candidate L) → Has cs d → served_by m listed d.label.arrival ≡ true
