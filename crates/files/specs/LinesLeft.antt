-- What a line reader has left, and what a call takes from it.
use Rattle.std.specs.Prelude.{ℕ, ◌+◌, cond, List, [], ◌∷◌, length, drop, Some, None, Ok, Err, Option, Result, ◌==◌}
use Rattle.std.specs.Borrow.{Bor}
use Rattle.refusals.specs.declared.refusal.Refusal.TheVariants.{LineNotEnded}
use Rattle.files.specs.declared.fault.FileName.{FileName}
use Rattle.files.specs.declared.fault.FileFault.{FileFault}
use Rattle.files.specs.declared.fault.LineFault.{LineFault}
use Rattle.files.specs.declared.fault.LineFault.TheVariants.{WholeLine}
use Rattle.files.specs.declared.lines.LineReader.{LineReader}
use Rattle.files.specs.Faults.{then, placed, at_line}
use Rattle.files.specs.Lines.{pieces}

-- the lines to come, and behind the last byte 10 one piece more
abbrev pub lines_left : LineReader → List (List ℕ)
lines_left r = pieces 10 (drop r.at r.text.now)

-- after n lines: the last piece is no line, but empty or a line that is not ended
abbrev pub next_line : FileName → ℕ → List (List ℕ) → Result (Option (List ℕ)) FileFault
next_line file n [] = Ok None
next_line file n (p ∷ []) = cond (length p == 0) (Ok None) (Err (placed file (n + 1) (WholeLine LineNotEnded)))
next_line file n (p ∷ q ∷ ps) = Ok (Some p)

-- the row of the next line, or the fault of that line
abbrev pub row_read : {R : Type 0} → FileName → ℕ → (List ℕ → Result R LineFault) → List (List ℕ) → Result (Option R) FileFault
row_read file n line [] = Ok None
row_read file n line (p ∷ []) = cond (length p == 0) (Ok None) (Err (placed file (n + 1) (WholeLine LineNotEnded)))
row_read file n line (p ∷ q ∷ ps) = then (at_line file (n + 1) (line p)) (λ r. Ok (Some r))

-- the lines to come once a line is taken
abbrev pub after_line : List (List ℕ) → List (List ℕ)
after_line [] = []
after_line (p ∷ []) = p ∷ []
after_line (p ∷ q ∷ ps) = q ∷ ps

-- how many lines are taken then
abbrev pub count_after : ℕ → List (List ℕ) → ℕ
count_after n [] = n
count_after n (p ∷ []) = n
count_after n (p ∷ q ∷ ps) = n + 1

-- an answer, by the bytes that it lends
abbrev pub told : Result (Option (Bor (List ℕ))) FileFault → Result (Option (List ℕ)) FileFault
told (Ok None) = Ok None
told (Ok (Some s)) = Ok (Some s.now)
told (Err e) = Err e
