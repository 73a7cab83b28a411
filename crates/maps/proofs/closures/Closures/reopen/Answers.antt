use Rattle.std.proofs.Common.{◌≡◌, length, position, None, Some, sym, ◌∙◌, rules}
use Rattle.std.proofs.lemmas.Result.{err_from_is_err_and}
use Rattle.refusals.specs.declared.refusal.Refusal.TheVariants.{PlaceNotShut}
use Rattle.maps.specs.Entries.{holds}
use Rattle.maps.proofs.Shutting.{one_less_shut, still_none_twice_reopened, shut_where_found, not_shut_where_none, no_place_to_reopen, reopen_is_accepted}
use Rattle.maps.proofs.ClosedRows.{reopened_place_is_as_below}
use Rattle.maps.proofs.closures.Closures.reopen.Goals as goal

pub returns-in_err-shut-clause-refused_by_the_first_failing_check : goal.returns-in_err-shut-clause-refused_by_the_first_failing_check
returns-in_err-shut-clause-refused_by_the_first_failing_check g c =
    let es = c.args.self.now.entries in
    let v = c.args.junction in
    let k = c.args.place in
    let p = err_from_is_err_and c.from_residual-in_err-shut.result c.from_residual-in_err-shut.ensures.1 in
    let none : position (holds v k) es ≡ None = sym c.find.ensures ∙ c.in_err-shut.ensures.ok_part in
    let e : c.in_err-shut.field-0.0 ≡ PlaceNotShut = let v = rw c.in_err-shut.ensures.ok_part at c.in_err-shut.ensures.value in cc in
    rw (p.1, p.2, e, ← c.junctions.ensures) (no_place_to_reopen c.junctions.result v k es c.in_ok-check_place.ensures.refused_by_the_first_failing_check (not_shut_where_none es v k none))

pub invariant_of-self : goal.invariant_of-self
invariant_of-self g c =
    let es = c.args.self.now.entries in
    let v = c.args.junction in
    let k = c.args.place in
    let size : length es ≡ 64 = search rules in
    let found : position (holds v k) es ≡ Some c.in_ok-shut.shut = sym c.find.ensures ∙ c.in_ok-shut.ensures.ok_part in
    record { once = rw c.take.ensures.after (still_none_twice_reopened es v k c.in_ok-shut.shut size c.args.self.now.once found) }

pub returns : goal.returns
returns g c =
    let es = c.args.self.now.entries in
    let v = c.args.junction in
    let k = c.args.place in
    let size : length es ≡ 64 = search rules in
    let found : position (holds v k) es ≡ Some c.in_ok-shut.shut = sym c.find.ensures ∙ c.in_ok-shut.ensures.ok_part in
    let asked = c.in_ok-check_place.ensures.accepted_on_the_map in
    let one = one_less_shut es v k c.in_ok-shut.shut size c.args.self.now.once found in
    record {
      refused_by_the_first_failing_check = rw (← c.junctions.ensures) (reopen_is_accepted c.junctions.result v k es c.in_ok-check_place.ensures.refused_by_the_first_failing_check (shut_where_found es v k _ found));
      unchanged_when_refused = search rules;
      that_place_and_no_other_is_open = λ _. rw c.take.ensures.after one;
      that_place_is_as_below_and_no_other_changed = λ _. rw c.take.ensures.after (reopened_place_is_as_below _ _ _ _ _ (rw c.junctions.ensures at asked.0) asked.1 one);
    }
