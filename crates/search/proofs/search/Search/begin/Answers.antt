use Rattle.std.proofs.Common.{◌≡◌, length, Ok, sym, refl, arith, rules}
use Rattle.std.proofs.lemmas.Bool.{eq-eqb, ne_eqb, cond-true, cond-false}
use Rattle.std.proofs.lemmas.Result.{err_from_is_err_and}
use Rattle.promises.specs.declared.standing.Standing.TheVariants.{Paused, Arrived}
use Rattle.promises.specs.Begin.{query}
use Rattle.search.specs.SearchNumbers.{numbers}
use Rattle.search.proofs.Beginning.{passed, begun}
use Rattle.search.proofs.Answering.{begin_keeps}
use Rattle.search.proofs.search.Search.begin.Goals as goal

pub returns-in_err-check_begin : goal.returns-in_err-check_begin
returns-in_err-check_begin g c =
    let p = err_from_is_err_and c.from_residual.result c.from_residual.ensures.1 in
    rw (p.1, p.2) (begin_keeps _ _ _ _ _ (search rules))

pub overflow_cast-self : goal.overflow_cast-self
overflow_cast-self g c =
    let p = passed (length (g.M.Map.rows c.args.map.now)) ((g.K.Kind.meaning c.args.kind.now).admits c.args.trip.load) c.args.trip.start c.args.trip.goal c.args.trip.deadline (length c.args.labels.now) (length c.args.waiting.now) c.in_ok-check_begin.ensures in
    omega (arith, p.few)

pub invariant_of-self : goal.invariant_of-self
invariant_of-self g c =
    let p = passed (length (g.M.Map.rows c.args.map.now)) ((g.K.Kind.meaning c.args.kind.now).admits c.args.trip.load) c.args.trip.start c.args.trip.goal c.args.trip.deadline (length c.args.labels.now) (length c.args.waiting.now) c.in_ok-check_begin.ensures in
    record { sized = (p.some, p.few, omega (arith, c.len.ensures, c.push_roads.ensures.few, c.over-heap.ensures.count_clamped_to_the_slice), p.wide) }

pub returns-then-trip : goal.returns-then-trip
returns-then-trip g c =
    let q = query (g.M.Map.rows c.args.map.now) (g.K.Kind.meaning c.args.kind.now) c.args.trip.start c.args.trip.load c.args.trip.goal c.args.trip.deadline in
    let h₀ = c.over-heap.result in let h = c.push_roads.new.heap in
    let empty : h₀.len ≡ 0 = omega (arith, c.over-heap.ensures.count_clamped_to_the_slice) in
    begin_keeps q _ (numbers c.args.self.now) _ (Ok (Arrived 0))
    (begun q (g.M.Map.sound c.args.map.now) (g.K.Kind.lawful c.args.kind.now) c.args.labels.now c.args.waiting.now c.in_ok-check_begin.ensures h₀ h empty c.push_roads.ensures.keeps_heap_order c.push_roads.ensures.grown _ _ c.junctions.result c.len.result c.junctions.ensures refl (sym c.len.ensures) (search rules) (search rules)
    (Arrived 0) (sym (cond-true _ _ _ (eq-eqb _ _ c.if-trip.true))) (numbers c.args.self.now))

pub returns : goal.returns
returns g c =
    let q = query (g.M.Map.rows c.args.map.now) (g.K.Kind.meaning c.args.kind.now) c.args.trip.start c.args.trip.load c.args.trip.goal c.args.trip.deadline in
    let h₀ = c.over-heap.result in let h = c.push_roads.new.heap in
    let empty : h₀.len ≡ 0 = omega (arith, c.over-heap.ensures.count_clamped_to_the_slice) in
    begin_keeps q _ (numbers c.args.self.now) _ (Ok Paused)
    (begun q (g.M.Map.sound c.args.map.now) (g.K.Kind.lawful c.args.kind.now) c.args.labels.now c.args.waiting.now c.in_ok-check_begin.ensures h₀ h empty c.push_roads.ensures.keeps_heap_order c.push_roads.ensures.grown _ _ c.junctions.result c.len.result c.junctions.ensures refl (sym c.len.ensures) (search rules) (search rules)
    Paused (sym (cond-false _ _ _ (ne_eqb _ _ c.if-trip.false))) (numbers c.args.self.now))
