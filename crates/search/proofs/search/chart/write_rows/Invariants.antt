use Rattle.charts.specs.Chart.{chart, rows_from}
use Rattle.search.proofs.WrittenRows.{Written}
use Rattle.search.proofs.search.chart.write_rows.Given as goal

abbrev pub invariant-loop-i : goal.invariant-loop-i
invariant-loop-i l =
    let rows = l.i-iterator.iter in
    record {
      can_next : (goal.iterator-loop-i).can_next l.i-iterator;
      is_finite : (goal.iterator-loop-i).is_finite l.i-iterator;
      written : Written (chart l.goal l.labels) l.initial.rows l.rows (rows_from rows.goal rows.number rows.least rows.labels.now) l.i-iterator.count;
    }
