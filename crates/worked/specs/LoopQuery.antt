-- A query on the map with a loop: from 0 to 1 with the charge 100, under the capacity 1,000, within 999 seconds.
use Rattle.loads.specs.declared.charge.Charge.{Charge}
use Rattle.loads.specs.Charge.{charge, charges}
use Rattle.front.specs.Walks.{Query}
use Rattle.promises.specs.Begin.{query}
use Rattle.worked.specs.WorkedMaps.{loop_rows}

abbrev pub loop_query : Query Charge
loop_query = query loop_rows (charges 1000) 0 (charge 100) 1 999
