-- Where one road arrives, as an answer that can be computed: what `Leads` says as a relation.
use Rattle.std.specs.Prelude.{ℕ, ◌+◌, cond, Some, None, Option, nat_le}
use Rattle.maps.specs.declared.road.Road.{Road}
use Rattle.maps.specs.Rows.{Rows, at}
use Rattle.loads.specs.Meaning.{Meaning}
use Rattle.front.specs.Walks.{Arrival}

-- the arrival over road e from a with the load that it gives, if it gives one and the deadline D is kept
abbrev pub arrival_with_load : {L : Type 0} → ℕ → Arrival L → Road → Option L → Option (Arrival L)
arrival_with_load D a e None = None
arrival_with_load D a e (Some f) = cond (nat_le (a.time + e.seconds) D) (Some (record { junction = e.head; time = a.time + e.seconds; load = f })) None

-- the arrival over what is at a place: over the road, or none where there is no road
abbrev pub arrival_over_road : {L : Type 0} → Meaning L → ℕ → Arrival L → Option Road → Option (Arrival L)
arrival_over_road m D a None = None
arrival_over_road m D a (Some e) = arrival_with_load D a e (m.drive a.load e)

-- the arrival by place k of a's junction
abbrev pub arrival_by_place : {L : Type 0} → Rows → Meaning L → ℕ → Arrival L → ℕ → Option (Arrival L)
arrival_by_place rows m D a k = arrival_over_road m D a (at rows a.junction k)
