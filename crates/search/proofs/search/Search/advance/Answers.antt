use Rattle.std.proofs.Common.{length, sym, ◌∙◌, arith, rules}
use Rattle.search.specs.SearchNumbers.{numbers, underway_numbers}
use Rattle.search.proofs.Turning.{lengths, one_turn_more, last_turn, budget_used}
use Rattle.search.proofs.Answering.{advance_keeps, advance_accepts}
use Rattle.search.proofs.search.Search.advance.Goals as goal

pub returns-in_err-run : goal.returns-in_err-run
returns-in_err-run g c = advance_keeps _ _ _ _ _ _ _ (search rules)

pub returns-in_err-check_advance : goal.returns-in_err-check_advance
returns-in_err-check_advance g c = advance_keeps _ _ _ _ _ _ _ (search rules)

pub returns-in-Some : goal.returns-in-Some
returns-in-Some g c =
    let rows = g.M.Map.rows c.args.map.now in let m = g.K.Kind.meaning c.args.kind.now in
    let s = underway_numbers c.in_ok-run.run'.now in let s' = underway_numbers c.turn.new.self in
    let lens = lengths s c.junctions.result (length c.args.labels.now) (length c.args.waiting.now) c.args.budget c.in_ok-check_advance.ensures in
    let done = last_turn rows m c.loop.counter s (underway_numbers c.loop.run) s' c.args.labels.now c.loop.labels c.turn.new.labels c.args.waiting.now c.loop.waiting c.turn.new.waiting c.loop.invariant c.args.budget c.loop-test.true c.progress.result lens.0 (search rules) (search rules) c.in-Some.standing c.in-Some.ensures c.progress.ensures in
    advance_keeps _ _ _ _ _ _ _ (advance_accepts rows m c.junctions.result c.args.budget _ s (numbers c.args.self.now) s' c.progress.result (grind rules) c.junctions.ensures c.in_ok-check_advance.ensures done)

pub loop-preserved : goal.loop-preserved
loop-preserved g c =
    one_turn_more (g.M.Map.rows c.args.map.now) (g.K.Kind.meaning c.args.kind.now) c.loop.counter (underway_numbers c.in_ok-run.run'.now) (underway_numbers c.loop.run) (underway_numbers c.turn.new.self) c.args.labels.now c.loop.labels c.turn.new.labels c.args.waiting.now c.loop.waiting c.turn.new.waiting c.loop.invariant c.in_default.ensures

pub returns : goal.returns
returns g c =
    let rows = g.M.Map.rows c.args.map.now in let m = g.K.Kind.meaning c.args.kind.now in
    let s = underway_numbers c.in_ok-run.run'.now in let s' = underway_numbers c.loop.run in
    let lens = lengths s c.junctions.result (length c.args.labels.now) (length c.args.waiting.now) c.args.budget c.in_ok-check_advance.ensures in
    let done = budget_used rows m c.args.budget c.loop.counter s s' c.args.labels.now c.loop.labels c.args.waiting.now c.loop.waiting c.loop.invariant (omega (arith, c.loop-test.false, c.loop.auto.counter-end)) c.loop.run.sized.0 c.progress-2.result lens.0 (search rules) (search rules) c.progress-2.ensures in
    advance_keeps _ _ _ _ _ _ _ (advance_accepts rows m c.junctions.result c.args.budget _ s (numbers c.args.self.now) s' c.progress-2.result (grind rules) c.junctions.ensures c.in_ok-check_advance.ensures done)

pub turn-requires : goal.turn-requires
turn-requires g c =
    let lens = lengths (underway_numbers c.in_ok-run.run'.now) c.junctions.result (length c.args.labels.now) (length c.args.waiting.now) c.args.budget c.in_ok-check_advance.ensures in
    (c.loop.auto.labels ∙ (lens.0 ∙ sym c.loop.invariant.keeps_its_query.room), c.loop.auto.waiting ∙ (lens.1 ∙ sym c.loop.invariant.keeps_its_query.width))
