use Rattle.std.proofs.Common.{◌-◌, ◌<◌, length}
use Rattle.std.specs.List.Sorted.{IsPermutation}
use Rattle.queue.specs.Heaps.{Heaped}
use Rattle.queue.proofs.Rising.{WayUp}
use Rattle.queue.proofs.sifts.sift_up.Given as goal

abbrev pub invariant-loop-at : goal.invariant-loop-at
invariant-loop-at g l =
    let n = length l.initial.entries in
    record {
      inside : l.at < length l.entries;
      same_entries : IsPermutation l.initial.entries l.entries;
      way_up : Heaped g.E.Entry.earlier l.initial.entries (n - 1) → WayUp g.E.Entry.earlier l.entries l.at n;
    }

abbrev pub decreases-loop-at : goal.decreases-loop-at
decreases-loop-at g l = l.at
