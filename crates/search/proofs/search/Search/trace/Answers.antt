use Rattle.std.proofs.Common.{arith, rules}
use Rattle.std.proofs.lemmas.Grind.{common_steps}
use Rattle.search.specs.SearchNumbers.{numbers}
use Rattle.search.proofs.Answering.{trace_keeps, trace_too_short, trace_written}
use Rattle.search.proofs.search.Search.trace.Goals as goal

pub returns-in_err-run : goal.returns-in_err-run
returns-in_err-run g c = trace_keeps _ _ _ _ _ _ (grind (arith, common_steps))

pub returns-then-label-run : goal.returns-then-label-run
returns-then-label-run g c = trace_keeps _ _ _ _ _ _ (search rules)

pub returns-then-walk-count : goal.returns-then-walk-count
returns-then-walk-count g c =
    trace_keeps _ _ _ _ _ _ (trace_too_short c.args.label c.args.labels.now c.args.walk.now (numbers c.args.self.now) c.count_roads-count.result (search rules) (search rules) c.count_roads-count.ensures c.if-walk-count.true)

pub returns : goal.returns
returns g c =
    trace_keeps _ _ _ _ _ _ (trace_written c.args.label c.args.labels.now c.args.walk.now (numbers c.args.self.now) c.count_roads-count.result (search rules) (search rules) c.count_roads-count.ensures c.write_walk.new.walk c.if-walk-count.false (search rules) c.write_walk.ensures.later_untouched c.write_walk.ensures.legs)
