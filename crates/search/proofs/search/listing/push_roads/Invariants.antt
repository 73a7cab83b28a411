use Rattle.search.specs.Steps.{offer}
use Rattle.search.proofs.Queueing.{Filling}
use Rattle.search.proofs.search.listing.push_roads.Given as goal

abbrev pub invariant-loop-place : goal.invariant-loop-place
invariant-loop-place g l = Filling (offer (g.M.Map.rows l.map) (g.K.Kind.meaning l.kind) l.deadline l.from l.number) l.place l.initial.heap l.heap
