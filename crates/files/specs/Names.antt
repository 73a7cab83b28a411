-- The names line: the name of each column once, in any order.
use Rattle.std.specs.Prelude.{ℕ, Bool, cond, List, [], ◌∷◌, ◌++◌, length, Some, None, Ok, Err, Option, Result}
use Rattle.std.specs.List.{list_any, list_all}
use Rattle.refusals.specs.declared.refusal.Refusal.TheVariants.{WrongNames}
use Rattle.files.specs.declared.fault.LineFault.{LineFault}
use Rattle.files.specs.declared.fault.LineFault.TheVariants.{WholeLine}
use Rattle.files.specs.Faults.{then}
use Rattle.files.specs.Fields.{parted}

-- a column that is the same as c stands among them
abbrev pub among : {C : Type 0} → (C → C → Bool) → C → List C → Bool
among same c ds = list_any (λ d. same d c) ds

abbrev pub all_among : {C : Type 0} → (C → C → Bool) → List C → List C → Bool
all_among same cs ds = list_all (λ c. among same c ds) cs

-- one column more, after those seen
abbrev pub one_more : {C : Type 0} → List C → Option C → (List C → Result (List C) LineFault) → Result (List C) LineFault
one_more seen None go = Err (WholeLine WrongNames)
one_more seen (Some c) go = go (seen ++ c ∷ [])

-- the columns that the fields name, after those seen
abbrev pub columns_named : {C : Type 0} → (List ℕ → Option C) → List C → List (List ℕ) → Result (List C) LineFault
columns_named named seen [] = Ok seen
columns_named named seen (f ∷ fs) = one_more seen (named f) (λ cs. columns_named named cs fs)

-- none of the columns is missing
abbrev pub complete : {C : Type 0} → (C → C → Bool) → List C → List C → Result (List C) LineFault
complete same all cs = cond (all_among same all cs) (Ok cs) (Err (WholeLine WrongNames))

-- as many names as there are columns, each a column's, and none missing: so each stands once
abbrev pub names_line : {C : Type 0} → (C → C → Bool) → (List ℕ → Option C) → List C → List (List ℕ) → Result (List C) LineFault
names_line same named all fs = cond (parted (length all) fs) (then (columns_named named [] fs) (complete same all)) (Err (WholeLine WrongNames))
