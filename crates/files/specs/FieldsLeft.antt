-- What a field reader has left.
use Rattle.std.specs.Prelude.{ℕ, List, []}
use Rattle.std.specs.Option.{option_map_or}
use Rattle.files.specs.Lines.{pieces}
use Rattle.files.specs.declared.fields.FieldReader.{FieldReader}

-- the fields to come
abbrev pub fields_left : FieldReader → List (List ℕ)
fields_left r = option_map_or (λ rest. pieces 32 rest.now) r.rest []
