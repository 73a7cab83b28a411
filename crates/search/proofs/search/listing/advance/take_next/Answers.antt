use Rattle.std.proofs.Common.{sym}
use Rattle.search.proofs.Queueing.{dropping_one, taken, first}
use Rattle.search.proofs.search.listing.advance.take_next.Goals as goal

pub loop-candidate-preserved : goal.loop-candidate-preserved
loop-candidate-preserved g c = dropping_one _ _ _ _ _ _ c.loop-candidate.invariant c.in-Some.ensures.over_the_same_slice c.in-Some.ensures.takes_the_first_unless_empty (sym c.if-not-served.ensures)

pub returns-then-not-served-clause-taken : goal.returns-then-not-served-clause-taken
returns-then-not-served-clause-taken g c = taken _ _ _ _ _ _ c.loop-candidate.invariant c.in-Some.ensures.takes_the_first_unless_empty (sym c.if-not-served.ensures)

pub returns-then-not-served-clause-least : goal.returns-then-not-served-clause-least
returns-then-not-served-clause-least g c = first _ _ _ _ _ _ c.loop-candidate.invariant c.in-Some.ensures.takes_the_first_unless_empty
