use Rattle.front.proofs.front_theorems.Goals as goal
use Rattle.front.proofs.Theorems.{theorems}

pub returns : goal.returns
returns g c = theorems _
