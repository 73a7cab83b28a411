-- The numbers of a search, as the promises speak of them.
use Rattle.std.specs.Prelude.{true, Some, None, Option}
use Rattle.promises.specs.Numbers.{Numbers, new_numbers}
use Rattle.search.specs.declared.search.Search.{Search}
use Rattle.search.specs.declared.search.Underway.{Underway}

abbrev pub underway_numbers : Underway → Numbers
underway_numbers r = record { begun = true; junctions = r.junctions; goal = r.goal; deadline = r.deadline; room = r.room; width = r.width; listed = r.listed; waiting = r.waiting }

-- those of a new search where no begin was accepted
abbrev pub numbers_of_run : Option Underway → Numbers
numbers_of_run None = new_numbers
numbers_of_run (Some r) = underway_numbers r

abbrev pub numbers : Search → Numbers
numbers s = numbers_of_run s.run
