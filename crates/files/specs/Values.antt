-- The number in a field, and the values of a line.
use Rattle.std.specs.Prelude.{ℕ, ◌+◌, ◌-◌, ◌*◌, Bool, true, cond, not, ◌&&◌, List, [], ◌∷◌, length, drop, ℤ, pos, neg_ℤ, Ok, Err, Result, ◌==◌, nat_le, nat_lt, slice_index}
use Rattle.refusals.specs.declared.refusal.Refusal.TheVariants.{NotAValue, FieldCountDiffers}
use Rattle.files.specs.declared.fault.LineFault.{LineFault}
use Rattle.files.specs.declared.fault.LineFault.TheVariants.{WholeLine}
use Rattle.files.specs.Faults.{Checked, then, in_field, in_line}
use Rattle.files.specs.Fields.{parted}

abbrev pub all_digits : List ℕ → Bool
all_digits [] = true
all_digits (d ∷ ds) = nat_le 48 d && nat_le d 57 && all_digits ds

-- the number that digits write after n
abbrev pub numeral : ℕ → List ℕ → ℕ
numeral n [] = n
numeral n (d ∷ ds) = numeral (n * 10 + (d - 48)) ds

-- one to six bytes, the first no zero that others follow
abbrev pub value_shaped : List ℕ → Bool
value_shaped ds = nat_lt 0 (length ds) && nat_le (length ds) 6 && not (nat_lt 1 (length ds) && slice_index ds 0 == 48)

-- one to six digits without a leading zero, except 0 itself
abbrev pub is_value : List ℕ → Bool
is_value ds = value_shaped ds && all_digits ds

abbrev pub value : List ℕ → Checked ℕ
value ds = cond (is_value ds) (Ok (numeral 0 ds)) (Err NotAValue)

-- a minus stands before a value that is not 0
abbrev pub negative : ℕ → Checked ℤ
negative v = cond (v == 0) (Err NotAValue) (Ok (neg_ℤ (pos v)))

abbrev pub has_minus : List ℕ → Bool
has_minus f = nat_lt 0 (length f) && slice_index f 0 == 45

abbrev pub signed_value : List ℕ → Checked ℤ
signed_value f = cond (has_minus f) (then (value (drop 1 f)) negative) (then (value f) (λ v. Ok (pos v)))

-- the fields from the k-th on, each filling its column of a row
abbrev pub fields_filled : {C X : Type 0} → (X → C → List ℕ → Checked X) → ℕ → List C → List (List ℕ) → X → Result X LineFault
fields_filled fill k [] fs x = Ok x
fields_filled fill k (c ∷ cs) [] x = Ok x
fields_filled fill k (c ∷ cs) (f ∷ fs) x = then (in_line (in_field k (fill x c f))) (fields_filled fill (k + 1) cs fs)

-- a value line: as many fields as columns, none empty, then field by field
abbrev pub value_line : {C X : Type 0} → (X → C → List ℕ → Checked X) → List C → X → List (List ℕ) → Result X LineFault
value_line fill cs blank fs = cond (parted (length cs) fs) (fields_filled fill 1 cs fs blank) (Err (WholeLine FieldCountDiffers))
