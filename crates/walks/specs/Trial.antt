-- A walk tried on a map: the roads driven, and how the trial ended.
use Rattle.std.specs.Prelude.{◌≡◌, ℕ, ◌+◌, cond, not, ◌||◌, List, [], ◌∷◌, length, Some, None, Ok, Err, vec_items, Option, Result, ◌==◌, nat_le, nat_lt, slice_index}
use Rattle.refusals.specs.declared.refusal.Refusal.{Refusal}
use Rattle.refusals.specs.declared.refusal.Refusal.TheVariants.{StartOffMap, StartLoadNotAdmitted, DeadlineTooLate, PlaceAboveEleven, HeaterPowerTooHigh, CapacityOutOfRange}
use Rattle.maps.specs.declared.road.Road.{Road}
use Rattle.maps.specs.Rows.{Rows, at}
use Rattle.maps.specs.FirstFailure.{first_failure}
use Rattle.loads.specs.Meaning.{Meaning}
use Rattle.loads.specs.Charge.{charge, charges}
use Rattle.front.specs.declared.arrival.Arrival.{Arrival}
use Rattle.front.specs.declared.leg.Leg.{Leg}
use Rattle.front.specs.Legs.{leg_of}
use Rattle.walks.specs.declared.trial.Trial.{Trial}
use Rattle.walks.specs.declared.trial.NoTrial.{NoTrial}
use Rattle.walks.specs.declared.trial.NoTrial.TheVariants.{Refused, OutOfMemory}
use Rattle.walks.specs.declared.trial.Stranding.{Stranding}
use Rattle.walks.specs.declared.trial.Stranding.TheVariants.{EmptyPlace, CannotDrive, PastDeadline}

-- road e driven from a within the deadline, where the load became f
abbrev pub arrival_over : {L : Type 0} → ℕ → Arrival L → Road → Option L → Result (Arrival L) Stranding
arrival_over deadline a e None = Err (CannotDrive e)
arrival_over deadline a e (Some f) = cond (nat_le (a.time + e.seconds) deadline) (Ok (record { junction = e.head; time = a.time + e.seconds; load = f })) (Err (PastDeadline e))

-- what is at a place, driven from a
abbrev pub step_over : {L : Type 0} → Meaning L → ℕ → Arrival L → Option Road → Result (Arrival L) Stranding
step_over m deadline a None = Err EmptyPlace
step_over m deadline a (Some e) = arrival_over deadline a e (m.drive a.load e)

-- where a van at a gets by place k of its junction, or why it does not
abbrev pub step_by_place : {L : Type 0} → Rows → Meaning L → ℕ → Arrival L → ℕ → Result (Arrival L) Stranding
step_by_place rows m deadline a k = step_over m deadline a (at rows a.junction k)

abbrev pub go_on_or_stop : {L X : Type 0} → Result (Arrival L) Stranding → (Arrival L → X) → (Stranding → X) → X
go_on_or_stop (Ok b) go_on stop = go_on b
go_on_or_stop (Err why) go_on stop = stop why

-- the legs driven from a by the places of a walk, up to the first road that cannot be driven
unfoldable pub legs_driven : {L : Type 0} → Rows → Meaning L → ℕ → Arrival L → List ℕ → List (Leg L)
legs_driven rows m deadline a [] = []
legs_driven rows m deadline a (k ∷ ks) = go_on_or_stop (step_by_place rows m deadline a k) (λ b. leg_of a k b ∷ legs_driven rows m deadline b ks) (λ why. [])

-- and how that ends: at the walk's end, or why it goes no further
unfoldable pub ending_of : {L : Type 0} → Rows → Meaning L → ℕ → Arrival L → List ℕ → Result (Unit {0}) Stranding
ending_of rows m deadline a [] = Ok tt
ending_of rows m deadline a (k ∷ ks) = go_on_or_stop (step_by_place rows m deadline a k) (λ b. ending_of rows m deadline b ks) Err

-- the arrival of the empty walk
abbrev pub at_the_start : {L : Type 0} → ℕ → L → Arrival L
at_the_start start f = record { junction = start; time = 0; load = f }

abbrev pub place_fault : List ℕ → ℕ → Option Refusal
place_fault places i = cond (nat_lt 11 (slice_index places i)) (Some PlaceAboveEleven) None

-- the first check that a trial fails: its start, its load, its deadline, then its places in order
abbrev pub trial_refusal : {L : Type 0} → ℕ → Meaning L → ℕ → L → ℕ → List ℕ → Option Refusal
trial_refusal n m start f deadline places =
    cond (not (nat_lt start n)) (Some StartOffMap)
    (cond (not (m.admits f)) (Some StartLoadNotAdmitted)
    (cond (nat_lt 999999 deadline) (Some DeadlineTooLate)
    (first_failure (place_fault places) (length places))))

-- a trial of that refusal, or else those legs and that ending
abbrev pub Tried : {L : Type 0} → Option Refusal → List (Leg L) → Result (Unit {0}) Stranding → Result (Trial L) NoTrial → Type 0
Tried None legs ending (Ok t) = (vec_items t.legs ≡ legs) × (t.ending ≡ ending)
Tried (Some f) legs ending (Ok t) = ⊥
Tried check legs ending (Err (Refused f)) = check ≡ Some f
Tried check legs ending (Err OutOfMemory) = check ≡ None

-- the same with a heater on and a battery: the heater's power and the battery's capacity are checked first
abbrev pub charged_trial_refusal : ℕ → ℕ → ℕ → ℕ → ℕ → List ℕ → Option Refusal
charged_trial_refusal n watts capacity start level places =
    cond (nat_lt 6000 watts) (Some HeaterPowerTooHigh)
    (cond (capacity == 0 || nat_lt 100000 capacity) (Some CapacityOutOfRange)
    (trial_refusal n (charges capacity) start (charge level) 999999 places))
