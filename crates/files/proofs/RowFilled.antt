-- A row is filled once the columns or the fields are at their end.
use Rattle.std.proofs.Common.{◌≡◌, ℕ, true, cond, List, [], ◌∷◌, length, Ok, Err, sym, refl, ap, ◌∙◌, subst, arith}
use Rattle.refusals.specs.declared.refusal.Refusal.TheVariants.{FieldCountDiffers}
use Rattle.files.specs.declared.fault.LineFault.TheVariants.{WholeLine}
use Rattle.files.specs.Faults.{Checked}
use Rattle.files.specs.Fields.{parted}
use Rattle.files.specs.Values.{fields_filled, value_line}

module _ {C X : Type 0} (fill : X → C → List ℕ → Checked X) where
  pub no_column : (n : ℕ) (cs : List C) (fs : List (List ℕ)) (x : X) → length cs ≡ 0 → fields_filled fill n cs fs x ≡ Ok x
  no_column n [] fs x e = refl
  no_column n (c ∷ cs) fs x e = absurd (omega arith)

  pub no_field : (n : ℕ) (cs : List C) (fs : List (List ℕ)) (x : X) → fs ≡ [] → fields_filled fill n cs fs x ≡ Ok x
  no_field n [] fs x e = refl
  no_field n (c ∷ cs) fs x e = subst (λ l. fields_filled fill n (c ∷ cs) l x ≡ Ok x) (sym e) refl

  -- the whole value line, from what its fields make of the blank row
  pub whole_row : (cs : List C) (blank : X) (fs : List (List ℕ)) (row : X) → true ≡ parted (length cs) fs → fields_filled fill 1 cs fs blank ≡ Ok row → value_line fill cs blank fs ≡ Ok row
  whole_row cs blank fs row t e = ap (λ b. cond b (fields_filled fill 1 cs fs blank) (Err (WholeLine FieldCountDiffers))) (sym t) ∙ e
