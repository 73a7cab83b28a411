use Rattle.std.proofs.Common.{rules}
use Rattle.search.proofs.Answering.{chart_keeps}
use Rattle.search.proofs.search.Search.chart.Goals as goal

pub returns-in_err-run : goal.returns-in_err-run
returns-in_err-run c = chart_keeps _ _ (search rules)

pub returns-then-not-starts_plain : goal.returns-then-not-starts_plain
returns-then-not-starts_plain c = chart_keeps _ _ (search rules)

pub returns-then-rows-count : goal.returns-then-rows-count
returns-then-rows-count c = chart_keeps _ _ (search rules)

pub returns : goal.returns
returns c = chart_keeps _ _ (search rules)
