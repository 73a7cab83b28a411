-- One answer more.
use Rattle.std.proofs.Common.{◌≡◌, ℕ, ◌+◌, ◌<◌, List, [], ◌∷◌, ◌++◌, length, get_or, take, Result}
use Rattle.std.proofs.lemmas.List.{take_more}
use Rattle.std.proofs.lemmas.Slice.Zip.{all_zipped_more}
use Rattle.refusals.specs.declared.refusal.Refusal.{Refusal}
use Rattle.questions.specs.declared.question.Question.{Question}
use Rattle.maps.specs.Rows.{Rows}
use Rattle.planner.specs.declared.answer.Answer.{Answer}
use Rattle.planner.specs.Answer.{AnsweredBy, question_check, query_of}
use Rattle.office.specs.Answers.{Answered, EachAnswered}

-- the next question of the list is answered
pub next_is_answered : (rows : Rows) (qs : List Question) (i : ℕ) (d : Question) (answers answers' : List (Result Answer Refusal)) (answer : Result Answer Refusal) (labels waiting : ℕ) → i < length qs → EachAnswered rows (take i qs) answers → labels ≡ 100 → waiting ≡ 1200
    → AnsweredBy (question_check rows (get_or qs i d) labels waiting) (query_of rows (get_or qs i d)) labels answer → answers' ≡ answers ++ answer ∷ [] → EachAnswered rows (take (i + 1) qs) answers'
next_is_answered rows qs i d answers answers' answer n w inside each labels waiting answered pushed =
    rw (take_more qs i d inside, pushed) (all_zipped_more (Answered rows) (take i qs) answers (get_or qs i d) answer each (rw (labels, waiting) at answered))
