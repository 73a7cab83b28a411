use Rattle.std.proofs.Common.{◌≡◌, ◌+◌, sym, subst, arith, rules}
use Rattle.search.specs.Steps.{offer}
use Rattle.search.proofs.Queueing.{Filling, filling_some, filling_skip}
use Rattle.search.proofs.search.listing.push_roads.Goals as goal
use Rattle.search.proofs.search.listing.push_roads.Goals.{in-Some, in_default}

pub loop-place-preserved : goal.loop-place-preserved
loop-place-preserved g c =
    let off = offer (g.M.Map.rows c.args.map.now) (g.K.Kind.meaning c.args.kind.now) c.args.deadline c.args.from c.args.number in
    let h₀ = c.args.heap.now in let h = c.loop-place.heap in
    elim c.match-follow.branch [
      | in-Some w ↦ subst (λ k. Filling off (c.loop-place.place + 1) h₀ k) (sym w.heap-is) (filling_some off c.loop-place.place h₀ h w.push.new.self w.in-Some.candidate c.loop-place.invariant w.push.ensures.over_the_same_slice (search rules) (sym w.in-Some.ensures))
      | in_default w ↦ subst (λ k. Filling off (c.loop-place.place + 1) h₀ k) (sym w.heap-is) (filling_skip off c.loop-place.place h₀ h c.loop-place.invariant (sym w.in_default.ensures))
    ]

pub returns-clause-grown : goal.returns-clause-grown
returns-clause-grown g c = let e : c.loop-place.place ≡ 12 = omega arith in rw e at c.loop-place.invariant.grown
