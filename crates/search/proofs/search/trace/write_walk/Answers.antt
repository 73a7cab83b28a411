use Rattle.std.proofs.Common.{◌∙◌, arith, rules, tests}
use Rattle.std.proofs.lemmas.List.{drop-set-lt}
use Rattle.search.proofs.WalkingBack.{one_more_written}
use Rattle.search.proofs.search.trace.write_walk.Goals as goal

pub loop-i-preserved : goal.loop-i-preserved
loop-i-preserved g c =
    let ((_, (_, at, more)), back) = c.in-Some.ensures.steps in
    record {
      can_next = search (rules, tests);
      is_finite = search (rules, tests);
      from_the_first = search rules;
      within = search rules;
      later_untouched = drop-set-lt c.args.count c.loop-i.walk c.in-Some.i c.in-Some.leg (omega arith) ∙ c.loop-i.invariant.later_untouched;
      halfway = λ w t e. one_more_written _ _ _ _ _ _ _ _ _ more at (omega arith) back (c.loop-i.invariant.halfway w t e);
    }
