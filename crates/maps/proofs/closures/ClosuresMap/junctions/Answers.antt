use Rattle.std.proofs.Common.{sym, ◌∙◌}
use Rattle.maps.specs.RowsSound.{length_layered}
use Rattle.maps.proofs.closures.ClosuresMap.junctions.Goals as goal

pub returns : goal.returns
returns g c = c.junctions.ensures ∙ sym (length_layered _ _)
