use Rattle.std.proofs.Common.{refl}
use Rattle.maps.specs.FirstFailure.{first_failure}
use Rattle.maps.proofs.table.TableMap.empty.Goals as goal

pub invariant_of-result : goal.invariant_of-result
unfolding first_failure
invariant_of-result c = record { checked = refl }
