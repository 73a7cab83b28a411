use Rattle.maps.proofs.Shutting.{none_twice_at_first}
use Rattle.maps.proofs.closures.Closures.over.Goals as goal

pub invariant_of-result : goal.invariant_of-result
invariant_of-result g c = record { once = none_twice_at_first }
