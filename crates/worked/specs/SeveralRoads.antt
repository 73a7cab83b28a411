-- A load driven over several roads, one after the other.
use Rattle.std.specs.Prelude.{List, [], ◌∷◌, Some, None, Option}
use Rattle.maps.specs.declared.road.Road.{Road}
use Rattle.loads.specs.Meaning.{Meaning}

-- what a load that may be there becomes over the roads; none where one of them cannot be driven
abbrev pub driven_over : {L : Type 0} → Meaning L → Option L → List Road → Option L
driven_over m None roads = None
driven_over m (Some f) [] = Some f
driven_over m (Some f) (e ∷ roads) = driven_over m (m.drive f e) roads
