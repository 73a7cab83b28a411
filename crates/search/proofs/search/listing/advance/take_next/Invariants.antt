use Rattle.search.proofs.Queueing.{Dropping}
use Rattle.search.proofs.search.listing.advance.take_next.Given as goal

abbrev pub invariant-loop-candidate : goal.invariant-loop-candidate
invariant-loop-candidate g l = Dropping (g.K.Kind.meaning l.kind) l.listed l.initial.heap l.heap

abbrev pub decreases-loop-candidate : goal.decreases-loop-candidate
decreases-loop-candidate g l = l.heap.len
