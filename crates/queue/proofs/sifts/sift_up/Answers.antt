use Rattle.std.proofs.Common.{◌-◌, ◌/◌, arith}
use Rattle.std.proofs.lemmas.List.Sorted.{IsPermutation-refl, IsPermutation-trans}
use Rattle.queue.proofs.Rising.{rising_from_the_end, rising_one_up, way_up}
use Rattle.queue.proofs.sifts.sift_up.Goals as goal

pub loop-at-init : goal.loop-at-init
loop-at-init g c = record {
  inside = omega arith;
  same_entries = IsPermutation-refl _;
  way_up = λ h. way_up _ _ _ _ (rising_from_the_end _ _ _ c.requires h);
}

pub loop-at-preserved : goal.loop-at-preserved
loop-at-preserved g c =
    let l = c.loop-at in
    let swapped = c.swap.ensures in
    let xs = l.entries in
    let ys = c.swap.new.self in
    let parent = (l.at - 1) / 2 in
    record {
      inside = omega arith;
      same_entries = IsPermutation-trans _ xs ys l.invariant.same_entries swapped.permutation;
      way_up = λ h. way_up _ ys parent _ (rising_one_up _ g.met.E.Entry.strict_weak_order xs ys parent l.at _ (omega arith) (omega arith) (omega arith) swapped.by_index c.if-not-comes_before.ensures (l.invariant.way_up h).rising);
    }
