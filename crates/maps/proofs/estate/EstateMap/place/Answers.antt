use Rattle.std.proofs.Common.{◌*◌}
use Rattle.maps.specs.Estate.{estate_place}
use Rattle.maps.proofs.RowsAnswered.{tabulated_found}
use Rattle.maps.specs.RowsSound.{length_tabulated}
use Rattle.maps.proofs.estate.EstateMap.place.Goals as goal

pub at-requires : goal.at-requires
at-requires c = rw length_tabulated at (rw c.junctions.ensures at c.in_ok-check_place.ensures.accepted_on_the_map.0)

pub returns : goal.returns
returns c =
    let numbers = c.args.self.now.numbers in
    let asked = c.in_ok-check_place.ensures.accepted_on_the_map in
    tabulated_found (numbers.width * numbers.height) (estate_place numbers) c.args.junction c.args.place c.at.result
    (rw length_tabulated at (rw c.junctions.ensures at asked.0)) asked.1 c.at.ensures
