use Rattle.std.proofs.Common.{refl, arith}
use Rattle.queue.proofs.PushedPopped.{pushed}
use Rattle.queue.proofs.heap.Heap.push.Goals as goal

pub returns-clause-adds_the_entry_unless_full : goal.returns-clause-adds_the_entry_unless_full
returns-clause-adds_the_entry_unless_full g c =
    pushed g.E.Entry.earlier _ _ _ _ _ _ c.sift_up.ensures.rearranges c.sift_up.ensures.restores_heap_order c.sift_up.auto.entries refl (omega arith) (omega arith) (omega arith) (omega arith)
