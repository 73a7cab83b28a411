use Rattle.std.proofs.Common.{◌≡◌, length, position, None, Some, sym, ◌∙◌, rules}
use Rattle.std.proofs.lemmas.Result.{err_from_is_err_and}
use Rattle.refusals.specs.declared.refusal.Refusal.TheVariants.{SixtyFourShut}
use Rattle.maps.specs.Entries.{is_like}
use Rattle.maps.proofs.Shutting.{one_more_shut, still_none_twice_shut, sixty_four_shut, fewer_shut, no_entry_left, shut_is_accepted}
use Rattle.maps.proofs.ClosedRows.{shut_place_is_empty}
use Rattle.maps.proofs.closures.Closures.shut.Goals as goal

pub returns-in_err-free-clause-refused_by_the_first_failing_check : goal.returns-in_err-free-clause-refused_by_the_first_failing_check
returns-in_err-free-clause-refused_by_the_first_failing_check g c =
    let es = c.args.self.now.entries in
    let v = c.args.junction in
    let k = c.args.place in
    let p = err_from_is_err_and c.from_residual-in_err-free.result c.from_residual-in_err-free.ensures.1 in
    let size : length es ≡ 64 = search rules in
    let none : position (is_like None) es ≡ None = sym c.find.ensures ∙ c.in_err-free.ensures.ok_part in
    let e : c.in_err-free.field-0.0 ≡ SixtyFourShut = let v = rw c.in_err-free.ensures.ok_part at c.in_err-free.ensures.value in cc in
    rw (p.1, p.2, e, ← c.junctions.ensures) (no_entry_left c.junctions.result v k es c.in_ok-check_place.ensures.refused_by_the_first_failing_check (sym c.if-is_shut.ensures) (sixty_four_shut es size none))

pub invariant_of-self : goal.invariant_of-self
invariant_of-self g c =
    let es = c.args.self.now.entries in
    let v = c.args.junction in
    let k = c.args.place in
    let size : length es ≡ 64 = search rules in
    let vacant : position (is_like None) es ≡ Some c.in_ok-free.free = sym c.find.ensures ∙ c.in_ok-free.ensures.ok_part in
    record { once = rw c.replace.ensures.after (still_none_twice_shut es v k c.in_ok-free.free size vacant c.args.self.now.once (sym c.if-is_shut.ensures)) }

pub returns : goal.returns
returns g c =
    let es = c.args.self.now.entries in
    let v = c.args.junction in
    let k = c.args.place in
    let size : length es ≡ 64 = search rules in
    let vacant : position (is_like None) es ≡ Some c.in_ok-free.free = sym c.find.ensures ∙ c.in_ok-free.ensures.ok_part in
    let asked = c.in_ok-check_place.ensures.accepted_on_the_map in
    let one = one_more_shut es v k c.in_ok-free.free size vacant in
    record {
      refused_by_the_first_failing_check = rw (← c.junctions.ensures) (shut_is_accepted c.junctions.result v k es c.in_ok-check_place.ensures.refused_by_the_first_failing_check (sym c.if-is_shut.ensures) (fewer_shut es _ size vacant));
      unchanged_when_refused = search rules;
      that_place_and_no_other_is_shut = λ _. rw c.replace.ensures.after one;
      that_place_is_empty_and_no_other_changed = λ _. rw c.replace.ensures.after (shut_place_is_empty _ _ _ _ _ (rw c.junctions.ensures at asked.0) asked.1 one);
    }
