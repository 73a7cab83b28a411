use Rattle.std.proofs.Common.{Some, sym, ap, ◌∙◌}
use Rattle.std.proofs.lemmas.Bool.{cond-true, cond-false, lt-ltb, le-ltb}
use Rattle.maps.specs.RowsSound.{length_tabulated}
use Rattle.maps.proofs.RowsAnswered.{tabulated_found}
use Rattle.maps.proofs.table.TableMapMap.place.Goals as goal

pub bounds-self-v : goal.bounds-self-v
bounds-self-v c = rw length_tabulated at (rw c.junctions.ensures at c.in_ok-check_place.ensures.accepted_on_the_map.0)

pub returns-then-place-self : goal.returns-then-place-self
returns-then-place-self c =
    let asked = c.in_ok-check_place.ensures.accepted_on_the_map in
    tabulated_found _ _ _ _ _ (rw length_tabulated at (rw c.junctions.ensures at asked.0)) asked.1 (sym (cond-false _ _ _ (le-ltb _ _ c.if-place-self.true)))

pub returns : goal.returns
returns c =
    let asked = c.in_ok-check_place.ensures.accepted_on_the_map in
    tabulated_found _ _ _ _ _ (rw length_tabulated at (rw c.junctions.ensures at asked.0)) asked.1
    (ap Some c.road.ensures ∙ sym (cond-true _ _ _ (lt-ltb _ _ c.if-place-self.false)))
