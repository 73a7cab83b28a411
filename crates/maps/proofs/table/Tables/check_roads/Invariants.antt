use Rattle.std.proofs.Common.{◌≡◌, ◌*◌, None}
use Rattle.maps.specs.FirstFailure.{first_failure}
use Rattle.maps.specs.Table.{tables_entry_fault}
use Rattle.maps.proofs.table.Tables.check_roads.Given as goal

abbrev pub invariant-loop-v : goal.invariant-loop-v
invariant-loop-v l = first_failure (tables_entry_fault l.self) (12 * l.v) ≡ None

abbrev pub invariant-loop-entry : goal.invariant-loop-entry
invariant-loop-entry l = first_failure (tables_entry_fault l.self) l.entry ≡ None
