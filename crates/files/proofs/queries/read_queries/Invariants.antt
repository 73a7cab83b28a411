use Rattle.std.proofs.Common.{◌≡◌, length, vec_items}
use Rattle.files.specs.declared.fault.FileName.TheVariants.{Queries}
use Rattle.files.specs.LinesLeft.{lines_left}
use Rattle.files.specs.Files.{lines_read}
use Rattle.files.specs.Queries.{query_taken, query_list}
use Rattle.files.proofs.queries.read_queries.Given as goal

abbrev pub invariant-loop-questions : goal.invariant-loop-questions
invariant-loop-questions l =
    (l.lines.file ≡ Queries)
    × (query_list l.fn.text ≡ lines_read Queries (query_taken l.columns) l.lines.taken (vec_items l.questions) (lines_left l.lines))

abbrev pub decreases-loop-questions : goal.decreases-loop-questions
decreases-loop-questions l = length (lines_left l.lines)
