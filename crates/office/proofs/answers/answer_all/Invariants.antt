use Rattle.std.proofs.Common.{◌≡◌, take, vec_items, vec_len}
use Rattle.office.specs.Answers.{EachAnswered}
use Rattle.office.proofs.answers.answer_all.Given as goal

abbrev pub invariant-loop-question : goal.invariant-loop-question
invariant-loop-question g l =
    (vec_len l.labels ≡ 100) × (vec_len l.waiting ≡ 1200)
    × EachAnswered (g.M.Map.rows l.map) (take l.question-index l.questions) (vec_items l.answers)
