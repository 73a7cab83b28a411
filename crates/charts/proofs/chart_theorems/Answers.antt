use Rattle.charts.proofs.chart_theorems.Goals as goal
use Rattle.charts.proofs.Theorems.{theorems}

pub returns : goal.returns
returns c = theorems
