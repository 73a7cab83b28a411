-- A whole file: its names line, then its value lines from the top, up to the first fault.
use Rattle.std.specs.Prelude.{◌≡◌, ℕ, ◌+◌, cond, List, [], ◌∷◌, length, Ok, Err, Result, ◌==◌}
use Rattle.refusals.specs.declared.refusal.Refusal.TheVariants.{WrongNames, LineNotEnded}
use Rattle.files.specs.declared.fault.FileName.{FileName}
use Rattle.files.specs.declared.fault.LineFault.{LineFault}
use Rattle.files.specs.declared.fault.LineFault.TheVariants.{WholeLine}
use Rattle.files.specs.declared.fault.FileFault.{FileFault}
use Rattle.files.specs.declared.fault.ReadFault.{ReadFault}
use Rattle.files.specs.declared.fault.ReadFault.TheVariants.{NoMemory, InFile}
use Rattle.files.specs.Faults.{then, placed, at_line}

-- the value lines after the n-th, each taken in turn into what was read before; the last piece is no line
abbrev pub lines_read : {S : Type 0} → FileName → (S → List ℕ → Result S LineFault) → ℕ → S → List (List ℕ) → Result S FileFault
lines_read file taken n s [] = Ok s
lines_read file taken n s (p ∷ []) = cond (length p == 0) (Ok s) (Err (placed file (n + 1) (WholeLine LineNotEnded)))
lines_read file taken n s (p ∷ q ∷ ps) = then (at_line file (n + 1) (taken s p)) (λ u. lines_read file taken (n + 1) u (q ∷ ps))

-- the columns of a names line, and the pieces behind it; a file without a line has wrong names
abbrev pub names_read : {C : Type 0} → FileName → (List ℕ → Result (List C) LineFault) → List (List ℕ) → Result (List C × List (List ℕ)) FileFault
names_read file names [] = Err (placed file 1 (WholeLine WrongNames))
names_read file names (p ∷ []) = Err (placed file 1 (WholeLine (cond (length p == 0) WrongNames LineNotEnded)))
names_read file names (p ∷ q ∷ ps) = then (at_line file 1 (names p)) (λ cs. Ok (cs, q ∷ ps))

-- the names line, and then the value lines
abbrev pub file_read : {C S : Type 0} → FileName → (List ℕ → Result (List C) LineFault) → (List C → S → List ℕ → Result S LineFault) → S → List (List ℕ) → Result S FileFault
file_read file names taken s ps = then (names_read file names ps) (λ o. lines_read file (taken o.0) 1 s o.1)

-- an answer, seen as what it holds, is what the definition gives, unless there is no memory
abbrev pub ReadAs : {X S : Type 0} → (X → S) → Result X ReadFault → Result S FileFault → Type 0
ReadAs seen (Ok x) r = r ≡ Ok (seen x)
ReadAs seen (Err NoMemory) r = Unit {0}
ReadAs seen (Err (InFile f)) r = r ≡ Err f
