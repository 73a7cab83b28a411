use Rattle.std.proofs.Common.{◌≡◌, ◌≤◌, List, length, drop}
use Rattle.front.specs.declared.leg.Leg.{Leg}
use Rattle.front.specs.Labels.{Traces}
use Rattle.search.proofs.WalkingBack.{Halfway}
use Rattle.search.proofs.search.trace.write_walk.Given as goal

abbrev pub invariant-loop-i : goal.invariant-loop-i
invariant-loop-i g l =
    let places = l.i-iterator.a.iter in
    let legs = l.i-iterator.b in
    record {
      can_next : (goal.iterator-loop-i g).can_next l.i-iterator;
      is_finite : (goal.iterator-loop-i g).is_finite l.i-iterator;
      from_the_first : places.start ≡ 0;
      within : places.end ≤ l.count;
      later_untouched : drop l.count l.walk ≡ drop l.count l.initial.walk;
      halfway : (w : List (Leg g.row.L.Denot)) → Traces l.labels l.label w → l.count ≡ length w → Halfway legs w places.end l.initial.walk l.walk;
    }
