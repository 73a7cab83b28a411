-- What a row more, or the end of the rows, makes of what was read of a file.
use Rattle.std.proofs.Common.{◌≡◌, ℕ, ◌+◌, Bool, true, false, cond, List, [], ◌∷◌, Some, None, Ok, Err, Option, Result, sym, ap}
use Rattle.files.specs.declared.fault.FileName.{FileName}
use Rattle.files.specs.declared.fault.LineFault.{LineFault}
use Rattle.files.specs.declared.fault.FileFault.{FileFault}
use Rattle.files.specs.Faults.{then, at_line}
use Rattle.files.specs.LinesLeft.{row_read}
use Rattle.files.specs.Files.{lines_read}
use Rattle.files.proofs.FirstFault.{ok_value, err_value, ok_no_err, some_value, some_no_none}

-- a last piece holds no row
no_row : {R : Type 0} (b : Bool) (r : R) (f : FileFault) → ◌≡◌ {A = Result (Option R) FileFault} (Ok (Some r)) (cond b (Ok None) (Err f)) → ⊥
no_row true r f e = some_no_none (ok_value e)
no_row false r f e = ok_no_err e

module _ {R : Type 0} (file : FileName) (line : List ℕ → Result R LineFault) (n : ℕ) where
  line_ok : (x : Result R LineFault) (r : R) → Ok (Some r) ≡ then (at_line file (n + 1) x) (λ y. Ok (Some y)) → x ≡ Ok r
  line_ok (Ok y) r e = ap Ok (sym (some_value (ok_value e)))
  line_ok (Err l) r e = absurd (ok_no_err e)

  pub row_line : (ps : List (List ℕ)) (r : R) → Ok (Some r) ≡ row_read file n line ps → (p : List ℕ) × (line p ≡ Ok r)
  row_line [] r e = absurd (some_no_none (ok_value e))
  row_line (p ∷ []) r e = absurd (no_row _ r _ e)
  row_line (p ∷ q ∷ ps) r e = (p, line_ok (line p) r e)

module _ {R S : Type 0} (file : FileName) (line : List ℕ → Result R LineFault) (add : S → R → Result S LineFault) (n : ℕ) (s : S) where
  last_fault : (b : Bool) (f g : FileFault) → ◌≡◌ {A = Result (Option R) FileFault} (Err g) (cond b (Ok None) (Err f)) → ◌≡◌ {A = Result S FileFault} (cond b (Ok s) (Err f)) (Err g)
  last_fault true f g e = absurd (ok_no_err (sym e))
  last_fault false f g e = ap Err (sym (err_value e))

  one_fault : (x : Result R LineFault) (f : FileFault) (go : S → Result S FileFault) → Err f ≡ then (at_line file (n + 1) x) (λ y. Ok (Some y)) → then (at_line file (n + 1) (then x (add s))) go ≡ Err f
  one_fault (Ok y) f go e = absurd (ok_no_err (sym e))
  one_fault (Err l) f go e = ap Err (sym (err_value e))

  pub row_fault : (ps : List (List ℕ)) (f : FileFault) → Err f ≡ row_read file n line ps → lines_read file (λ u p. then (line p) (add u)) n s ps ≡ Err f
  row_fault [] f e = absurd (ok_no_err (sym e))
  row_fault (p ∷ []) f e = last_fault _ _ f e
  row_fault (p ∷ q ∷ ps) f e = one_fault (line p) f _ e
