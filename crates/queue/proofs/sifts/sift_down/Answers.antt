use Rattle.std.proofs.lemmas.List.Sorted.{IsPermutation-refl, IsPermutation-trans}
use Rattle.queue.proofs.Sinking.{sinking_from_the_top, sinking_one_down, way_down}
use Rattle.queue.proofs.sifts.sift_down.Goals as goal

pub loop-at-init : goal.loop-at-init
loop-at-init g c = record {
  same_entries = IsPermutation-refl _;
  way_down = λ h. way_down _ g.met.E.Entry.strict_weak_order _ _ _ (sinking_from_the_top _ _ _ h);
}

pub loop-at-preserved : goal.loop-at-preserved
loop-at-preserved g c =
    let l = c.loop-at in
    let swapped = c.swap.ensures in
    let xs = l.entries in
    let ys = c.swap.new.self in
    let child = c.lesser_child-child.result in
    let order = g.met.E.Entry.strict_weak_order in
    record {
      same_entries = IsPermutation-trans _ xs ys l.invariant.same_entries swapped.permutation;
      way_down = λ h. way_down _ order ys child _ (sinking_one_down _ order xs ys l.at child _ swapped.by_index (rw c.loop-at.auto.entries at c.lesser_child-child.ensures) c.if-not-comes_before.ensures (l.invariant.way_down h).sinking);
    }
