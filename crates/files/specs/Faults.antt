-- Faults going up: from a value to its line, from a line to its file.
use Rattle.std.specs.Prelude.{ℕ, Ok, Err, Result}
use Rattle.refusals.specs.declared.refusal.Refusal.{Refusal}
use Rattle.files.specs.declared.fault.FileName.{FileName}
use Rattle.files.specs.declared.fault.ValueFault.{ValueFault}
use Rattle.files.specs.declared.fault.LineFault.{LineFault}
use Rattle.files.specs.declared.fault.LineFault.TheVariants.{WholeLine, InField}
use Rattle.files.specs.declared.fault.FileFault.{FileFault}

-- what a field is checked to hold, or why it is refused
abbrev pub Checked : Type 0 → Type 0
Checked X = Result X Refusal

-- one check after another: the first fault stands
abbrev pub then : {X Y E : Type 0} → Result X E → (X → Result Y E) → Result Y E
then (Ok x) f = f x
then (Err e) f = Err e

-- a value's refusal is a fault of field k
abbrev pub in_field : {X : Type 0} → ℕ → Result X Refusal → Result X ValueFault
in_field k (Ok x) = Ok x
in_field k (Err e) = Err (record { field = k; refusal = e })

-- a field's fault is a fault of its line
abbrev pub in_line : {X : Type 0} → Result X ValueFault → Result X LineFault
in_line (Ok x) = Ok x
in_line (Err v) = Err (InField v)

-- a fault of line n is a fault of the file, at field 0 where it is the whole line's
abbrev pub placed : FileName → ℕ → LineFault → FileFault
placed file n (WholeLine r) = record { file = file; line = n; field = 0; refusal = r }
placed file n (InField v) = record { file = file; line = n; field = v.field; refusal = v.refusal }

abbrev pub at_line : {X : Type 0} → FileName → ℕ → Result X LineFault → Result X FileFault
at_line file n (Ok x) = Ok x
at_line file n (Err l) = Err (placed file n l)
