-- A question is answered on its heated map, once its heater and its capacity are accepted.
use Rattle.std.proofs.Common.{◌≡◌, ℕ, ◌≤◌, length, Result, sym, ap, ◌∙◌, arith}
use Rattle.std.proofs.lemmas.Bool.Decides.{nat_tests}
use Rattle.refusals.specs.declared.refusal.Refusal.{Refusal}
use Rattle.maps.specs.Rows.{Rows}
use Rattle.maps.specs.Heater.{heated_rows}
use Rattle.maps.specs.RowsSound.{length_layered}
use Rattle.loads.specs.Charge.{charge, charges}
use Rattle.promises.specs.Begin.{query, begin_check}
use Rattle.planner.specs.declared.answer.Answer.{Answer}
use Rattle.questions.specs.declared.question.Question.{Question}
use Rattle.planner.specs.Answer.{AnsweredBy, question_check, query_of}

module _ (rows : Rows) (a : Question) (labels waiting n : ℕ) where
  both_pass : a.heater ≤ 6000 → 1 ≤ a.capacity → a.capacity ≤ 100000 → question_check rows a labels waiting ≡ begin_check (length rows) ((charges a.capacity).admits (charge a.charge)) a.start a.goal a.deadline labels waiting
  both_pass p q r = grind (arith, nat_tests)

  pub answered_on_the_heated_map : (answer : Result Answer Refusal) → a.heater ≤ 6000 → 1 ≤ a.capacity → a.capacity ≤ 100000 → (below : Rows) (power most : ℕ) → below ≡ rows → power ≡ a.heater → most ≡ a.capacity
      → AnsweredBy (begin_check (length (heated_rows power below)) ((charges most).admits (charge a.charge)) a.start a.goal a.deadline labels waiting) (query (heated_rows power below) (charges most) a.start (charge a.charge) a.goal a.deadline) n answer
      → AnsweredBy (question_check rows a labels waiting) (query_of rows a) n answer
  answered_on_the_heated_map answer p q r below power most below_is power_is most_is x =
      let same : begin_check (length (heated_rows a.heater rows)) ((charges a.capacity).admits (charge a.charge)) a.start a.goal a.deadline labels waiting ≡ question_check rows a labels waiting =
      ap (λ k. begin_check k ((charges a.capacity).admits (charge a.charge)) a.start a.goal a.deadline labels waiting) (length_layered _ rows) ∙ sym (both_pass p q r) in
      rw (← same) (rw (below_is, power_is, most_is) at x)
