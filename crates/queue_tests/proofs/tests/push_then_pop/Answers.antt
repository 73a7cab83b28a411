use Rattle.std.proofs.Common.{rules}
use Rattle.queue_tests.proofs.HandedBack.{exchanged_for_the_least}
use Rattle.queue_tests.proofs.tests.push_then_pop.Goals as goal

pub returns : goal.returns
returns g c =
    let first = c.over-heap in
    let second = c.over-heap-2 in
    exchanged_for_the_least g.E.Entry.earlier c.args.count c.args.entries.now _ c.args.entry first.result c.push.new.self second.result c.pop.new.self c.pop.result c.requires
    first.ensures.holds_what_the_slice_held first.ensures.count_clamped_to_the_slice c.push.ensures.over_the_same_slice.same_length (search rules)
    (search rules) (search rules) c.pop.ensures.takes_the_first_unless_empty (search rules)
