use Rattle.std.proofs.Common.{◌-◌, ◌<◌, refl, arith}
use Rattle.std.proofs.lemmas.List.{length-take-le, get_or_default}
use Rattle.queue.specs.Waiting.{slots}
use Rattle.queue.proofs.PushedPopped.{popped}
use Rattle.queue.proofs.heap.Heap.pop.Goals as goal

pub returns-clause-takes_the_first_unless_empty : goal.returns-clause-takes_the_first_unless_empty
returns-clause-takes_the_first_unless_empty g c =
    let h = c.args.self.now in
    let taken = c.in_ok-first.ensures in
    let some : 0 < h.len = omega (arith, taken.one_of_those_waiting.1, length-take-le h.len (slots h) h.within) in
    popped g.E.Entry.earlier _ _ _ _ _ _ taken c.sift_down.ensures.rearranges c.sift_down.ensures.restores_heap_order c.sift_down.auto.entries refl
    (λ d. get_or_default (slots h) (h.len - 1) d c.index-self-last.result (omega (arith, some))) (omega (arith, some)) (omega arith)
