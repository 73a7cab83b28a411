use Rattle.std.proofs.Common.{◌+◌, ◌-◌, ◌*◌, ◌≤◌, slice_index, sym, ◌∙◌, arith}
use Rattle.std.proofs.lemmas.Bool.{cond-true, lt-ltb}
use Rattle.std.proofs.lemmas.Result.{err_from_is_err_and}
use Rattle.maps.specs.Table.{tables_entry_fault}
use Rattle.maps.specs.FirstFailureFound.{first_failure_none, first_failure_more, first_failure_here}
use Rattle.maps.proofs.RoadsInRows.{count_within, rows_long, below_count, whole_row}
use Rattle.maps.proofs.table.Tables.check_roads.Goals as goal

pub loop-v-init : goal.loop-v-init
loop-v-init c = first_failure_none (tables_entry_fault c.args.self)

pub road-requires-clause-within_the_heads : goal.road-requires-clause-within_the_heads
road-requires-clause-within_the_heads c =
    let few = count_within c.args.self c.loop-v.v c.loop-v-test.true c.requires.twelve_at_most in
    let long = rows_long c.args.self c.requires.lengths_agree in
    omega (arith, few, long.0, c.loop-entry-test.true, c.loop-v-test.true)

pub road-requires-clause-within_the_times : goal.road-requires-clause-within_the_times
road-requires-clause-within_the_times c =
    let few = count_within c.args.self c.loop-v.v c.loop-v-test.true c.requires.twelve_at_most in
    let long = rows_long c.args.self c.requires.lengths_agree in
    omega (arith, few, long.1, c.loop-entry-test.true, c.loop-v-test.true)

pub road-requires-clause-within_the_draws : goal.road-requires-clause-within_the_draws
road-requires-clause-within_the_draws c =
    let few = count_within c.args.self c.loop-v.v c.loop-v-test.true c.requires.twelve_at_most in
    let long = rows_long c.args.self c.requires.lengths_agree in
    omega (arith, few, long.2, c.loop-entry-test.true, c.loop-v-test.true)

pub returns-in_err-check : goal.returns-in_err-check
returns-in_err-check c =
    let p = err_from_is_err_and c.from_residual.result c.from_residual.ensures.1 in
    let few = count_within c.args.self c.loop-v.v c.loop-v-test.true c.requires.twelve_at_most in
    rw (p.1, p.2) (first_failure_here (tables_entry_fault c.args.self) _ c.loop-entry.entry _ (omega (arith, few, c.loop-entry-test.true, c.loop-v-test.true)) c.loop-entry.invariant
    (cond-true _ _ _ (lt-ltb _ _ (below_count c.args.self c.loop-v.v c.loop-entry.entry c.loop-entry.auto.entry c.loop-entry-test.true few)) ∙ sym (rw c.road.ensures at c.in_err-check.ensures)))

pub loop-entry-preserved : goal.loop-entry-preserved
loop-entry-preserved c =
    let few = count_within c.args.self c.loop-v.v c.loop-v-test.true c.requires.twelve_at_most in
    first_failure_more (tables_entry_fault c.args.self) _ c.loop-entry.invariant
    (cond-true _ _ _ (lt-ltb _ _ (below_count c.args.self c.loop-v.v c.loop-entry.entry c.loop-entry.auto.entry c.loop-entry-test.true few)) ∙ sym (rw c.road.ensures at c.in_ok-check.ensures))

pub loop-v-preserved : goal.loop-v-preserved
loop-v-preserved c =
    let few = count_within c.args.self c.loop-v.v c.loop-v-test.true c.requires.twelve_at_most in
    let done : 12 * c.loop-v.v + slice_index c.args.self.counts.now c.loop-v.v ≤ c.loop-entry.entry = omega (arith, c.loop-entry-test.false) in
    let most : c.loop-entry.entry ≤ 12 * (c.loop-v.v + 1) = omega (arith, few, c.loop-entry.auto.entry-end) in
    whole_row c.args.self c.loop-v.v c.loop-entry.entry (12 * (c.loop-v.v + 1) - c.loop-entry.entry) done (omega (arith, most)) c.loop-entry.invariant
