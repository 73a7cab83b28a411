use Rattle.std.proofs.Common.{◌++◌, [], ◌∷◌, Ok, ap, ◌∙◌, vec_items}
use Rattle.std.proofs.lemmas.Result.{err_from_is_err_and}
use Rattle.files.specs.declared.fault.FileName.TheVariants.{Queries}
use Rattle.files.specs.LinesLeft.{lines_left, row_read}
use Rattle.files.specs.Queries.{query_line}
use Rattle.files.proofs.LinesTaken.{row_fault}
use Rattle.files.proofs.queries.read_queries.Goals as goal

pub returns-in_err-question : goal.returns-in_err-question
returns-in_err-question c =
    let p = err_from_is_err_and c.from_residual-in_err-question.result c.from_residual-in_err-question.ensures.1 in
    let lines = c.loop-questions.lines in
    let line = query_line c.in_ok-columns.columns in
    let left = lines_left lines in
    rw (p.1, p.2)
    (c.loop-questions.invariant.1
    ∙ row_fault Queries line (λ qs q. Ok (qs ++ q ∷ [])) lines.taken (vec_items c.loop-questions.questions) left c.in_err-question.field-0.0
    (c.in_err-question.ensures.row_or_fault ∙ ap (λ x. row_read x lines.taken line left) c.loop-questions.invariant.0))
