use Rattle.std.proofs.Common.{◌≡◌, ◌≤◌, length}
use Rattle.charts.specs.Chart.{rows_from}
use Rattle.search.proofs.search.chart.ChartRowsIterator.next.Given as goal

abbrev pub invariant-loop-label : goal.invariant-loop-label
invariant-loop-label l =
    (length l.self.labels.now ≤ length l.initial.self.labels.now)
    × (rows_from l.self.goal l.self.number l.self.least l.self.labels.now
    ≡ rows_from l.initial.self.goal l.initial.self.number l.initial.self.least l.initial.self.labels.now)

abbrev pub decreases-loop-label : goal.decreases-loop-label
decreases-loop-label l = length l.self.labels.now
