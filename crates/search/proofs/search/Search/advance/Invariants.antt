use Rattle.search.specs.SearchNumbers.{underway_numbers}
use Rattle.search.proofs.Turning.{AfterTurns}
use Rattle.search.proofs.search.Search.advance.Given as goal

abbrev pub invariant-loop : goal.invariant-loop
invariant-loop g l = AfterTurns (g.M.Map.rows l.map) (g.K.Kind.meaning l.kind) l.counter (underway_numbers l.initial.run) l.initial.labels l.initial.waiting (underway_numbers l.run) l.labels l.waiting
