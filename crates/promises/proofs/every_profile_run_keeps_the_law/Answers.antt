use Rattle.promises.proofs.ChartsTold.{profile_law}
use Rattle.promises.proofs.every_profile_run_keeps_the_law.Goals as goal

pub returns : goal.returns
returns c = profile_law
