use Rattle.std.proofs.Common.{◌-◌, length}
use Rattle.std.specs.List.Sorted.{IsPermutation}
use Rattle.queue.specs.Heaps.{HeapedFrom}
use Rattle.queue.proofs.Sinking.{WayDown}
use Rattle.queue.proofs.sifts.sift_down.Given as goal

abbrev pub invariant-loop-at : goal.invariant-loop-at
invariant-loop-at g l =
    let n = length l.initial.entries in
    record {
      same_entries : IsPermutation l.initial.entries l.entries;
      way_down : HeapedFrom g.E.Entry.earlier 1 l.initial.entries n → WayDown g.E.Entry.earlier l.entries l.at n;
    }

abbrev pub decreases-loop-at : goal.decreases-loop-at
decreases-loop-at g l = length l.entries - l.at
