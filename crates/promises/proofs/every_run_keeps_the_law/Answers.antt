use Rattle.promises.proofs.LawKept.{law}
use Rattle.promises.proofs.every_run_keeps_the_law.Goals as goal

pub returns : goal.returns
returns g c = law _
