use Rattle.std.proofs.Common.{sym, ◌∙◌}
use Rattle.maps.specs.RowsSound.{length-layered}
use Rattle.maps.proofs.heater.HeaterMap.junctions.Goals as goal

pub returns : goal.returns
returns g c = c.junctions.ensures ∙ sym (length-layered _ _)
