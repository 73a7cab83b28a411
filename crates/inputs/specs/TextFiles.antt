-- What reading a whole file gives.
use Rattle.std.specs.Prelude.{◌≡◌, ℕ, ◌≤◌, Some, None, Ok, Err, Option, Result}
use Rattle.refusals.specs.declared.refusal.Refusal.TheVariants.{FileUnreadable}
use Rattle.files.specs.declared.fault.FileName.{FileName}
use Rattle.files.specs.declared.fault.FileFault.{FileFault}

-- the fault of a file that cannot be read or is too long: of no line and no field
abbrev pub unreadable : FileName → FileFault
unreadable file = record { file = file; line = 0; field = 0; refusal = FileUnreadable }

-- at most 32,768 bytes, or that fault of this file
abbrev pub ReadWhole : {X : Type 0} → (X → ℕ) → FileName → Result X FileFault → Type 0
ReadWhole bytes file (Ok x) = bytes x ≤ 32768
ReadWhole bytes file (Err f) = f ≡ unreadable file

-- the same of a file that may be absent
abbrev pub ReadWholeIfThere : {X : Type 0} → (X → ℕ) → FileName → Result (Option X) FileFault → Type 0
ReadWholeIfThere bytes file (Ok None) = Unit {0}
ReadWholeIfThere bytes file (Ok (Some x)) = bytes x ≤ 32768
ReadWholeIfThere bytes file (Err f) = f ≡ unreadable file
