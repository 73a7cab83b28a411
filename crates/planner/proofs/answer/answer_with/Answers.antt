use Rattle.std.proofs.Common.{rules}
use Rattle.loads.specs.Charge.{charge, charges}
use Rattle.promises.specs.Begin.{query}
use Rattle.search.specs.SearchNumbers.{numbers}
use Rattle.planner.proofs.Concluding.{so_at_the_start, so_after_the_advance}
use Rattle.planner.proofs.answer.answer_with.Goals.{in-Paused+in_ok-advance-in-Paused, in_default}
use Rattle.planner.proofs.answer.answer_with.Goals as goal

pub returns : goal.returns
returns g c =
    let a = c.args.question in
    let q = query (g.M.Map.rows c.args.map.now) (charges c.args.kind.now.capacity.watt_hours) a.start (charge a.charge) a.goal a.deadline in
    let told = c.told_by.ensures in
    elim c.match-branch-2.branch [
      | in-Paused+in_ok-advance-in-Paused w ↦
          so_after_the_advance q c.args.labels.now c.begin.new.labels c.args.waiting.now c.begin.new.waiting (numbers c.new-search.result) (numbers c.begin.new.self) _ c.in_ok-begun.ensures.promised w.in-Paused.is (search rules)
          w.advance.new.labels w.advance.new.waiting (numbers w.advance.new.self) w.min-budget.result w.min-budget.ensures _ w.in_ok-advance-in-Paused.ensures.promised c.told_by.result (rw (w.labels-is, w.search-is, w.standing-is) at told)
      | in_default w ↦
          so_at_the_start q c.args.labels.now c.begin.new.labels c.args.waiting.now c.begin.new.waiting (numbers c.new-search.result) (numbers c.begin.new.self) _ c.in_ok-begun.ensures.promised w.in_default.not-Paused
          c.told_by.result (rw (w.labels-is, w.search-is, w.standing-is) at told)
    ]
