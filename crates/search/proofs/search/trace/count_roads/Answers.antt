use Rattle.search.proofs.WalkingBack.{counted}
use Rattle.search.proofs.search.trace.count_roads.Goals as goal

pub returns : goal.returns
returns g c = counted _ _ c.count.ensures.ran
