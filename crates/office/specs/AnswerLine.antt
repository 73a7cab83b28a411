-- The line that is written for an answer: query, answer, seconds, charge, roads and code, with `-` where there is none.
use Rattle.std.specs.Prelude.{ℕ, List, ◌++◌, Ok, Err, codes, decimal, Result}
use Rattle.refusals.specs.declared.refusal.Refusal.{Refusal}
use Rattle.refusals.specs.Numbers.{number}
use Rattle.planner.specs.declared.answer.Answer.{Answer}
use Rattle.planner.specs.declared.answer.Answer.TheVariants.{Route, NoRoute, Full}

abbrev pub answer_line : ℕ → Result Answer Refusal → List ℕ
answer_line n (Ok (Route r)) = decimal n ++ (codes " route " ++ (decimal r.seconds ++ (codes " " ++ (decimal r.charge ++ (codes " " ++ (decimal r.roads ++ codes " -"))))))
answer_line n (Ok NoRoute) = decimal n ++ codes " none - - - -"
answer_line n (Ok Full) = decimal n ++ codes " full - - - -"
answer_line n (Err f) = decimal n ++ (codes " refused - - - " ++ decimal (number f))
