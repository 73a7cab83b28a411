use Rattle.std.proofs.Common.{◌≡◌, ◌<◌, take, sym, refl, arith, rules}
use Rattle.search.specs.SearchNumbers.{underway_numbers}
use Rattle.search.specs.Steps.{EachServed}
use Rattle.search.proofs.Queueing.{waits}
use Rattle.search.proofs.Stepping.{turn_ended, turn_full, turn_listed}
use Rattle.search.proofs.search.Underway.turn.Goals as goal

pub returns-in_default : goal.returns-in_default
returns-in_default g c =
    let rows = g.M.Map.rows c.args.map.now in let m = g.K.Kind.meaning c.args.kind.now in
    let s = c.args.self.now in let h₀ = c.over-heap.result in let ls = c.args.labels.now in
    let el : h₀.len ≡ s.waiting = omega (arith, c.over-heap.ensures.count_clamped_to_the_slice, s.sized, c.requires) in
    turn_ended rows m ls c.args.waiting.now (underway_numbers s) _ s.sized.0 _ (waits h₀ c.args.waiting.now s.waiting el c.over-heap.ensures.holds_what_the_slice_held (λ v. EachServed m (take s.listed ls) v) c.in_default.ensures.taken.1)
    (record { begun = refl; junctions = refl; goal = refl; deadline = refl; room = refl; width = refl }) refl refl (search rules)

pub returns-then-self : goal.returns-then-self
returns-then-self g c =
    let rows = g.M.Map.rows c.args.map.now in let m = g.K.Kind.meaning c.args.kind.now in
    let s = c.args.self.now in let h₀ = c.over-heap.result in let h = c.take_next.new.heap in
    let t = c.in-Some.ensures in
    let el : h₀.len ≡ s.waiting = omega (arith, c.over-heap.ensures.count_clamped_to_the_slice, s.sized, c.requires) in
    turn_full rows m c.args.labels.now c.args.waiting.now (underway_numbers s) _ s.sized.0 h₀ h el c.over-heap.ensures.holds_what_the_slice_held c.in-Some.candidate t.taken.0 t.taken.1 t.keeps_heap_order t.least _ c.push.new.self (sym c.len-self.ensures) (search rules) (search rules)
    (record { begun = refl; junctions = refl; goal = refl; deadline = refl; room = refl; width = refl }) refl c.if-self.true (search rules)

pub returns : goal.returns
returns g c =
    let rows = g.M.Map.rows c.args.map.now in let m = g.K.Kind.meaning c.args.kind.now in
    let s = c.args.self.now in let h₀ = c.over-heap.result in
    let t = c.in-Some.ensures in
    let el : h₀.len ≡ s.waiting = omega (arith, c.over-heap.ensures.count_clamped_to_the_slice, s.sized, c.requires) in
    let room : s.listed < s.room = omega (arith, c.if-self.false, s.sized.0) in
    turn_listed rows m c.args.labels.now c.args.waiting.now (underway_numbers s) (underway_numbers c.list.new.self) s.sized.0 h₀ c.take_next.new.heap el c.over-heap.ensures.holds_what_the_slice_held c.in-Some.candidate t.taken.0 t.taken.1 t.keeps_heap_order t.least _ c.list.new.heap (sym c.list.ensures.listed.counts_those_waiting) (search rules) (search rules) c.list.new.labels c.list.result room c.list.ensures.listed
