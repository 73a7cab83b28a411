use Rattle.std.proofs.Common.{sym}
use Rattle.maps.specs.RowsSound.{length_tabulated}
use Rattle.maps.proofs.estate.EstateMap.junctions.Goals as goal

pub returns : goal.returns
returns c = sym (length_tabulated _ _)
