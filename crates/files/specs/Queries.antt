-- A query file: its columns by name, the values in them, and the list of its queries or its first fault.
use Rattle.std.specs.Prelude.{ℕ, Bool, cond, List, [], ◌∷◌, ◌++◌, Some, None, Ok, codes, Option, Result, ◌==◌}
use Rattle.std.specs.Str.{bytes_eq}
use Rattle.questions.specs.declared.question.Question.{Question}
use Rattle.files.specs.declared.fault.FileName.TheVariants.{Queries}
use Rattle.files.specs.declared.fault.LineFault.{LineFault}
use Rattle.files.specs.declared.fault.FileFault.{FileFault}
use Rattle.files.specs.declared.queries.QueryColumn.{QueryColumn}
use Rattle.files.specs.declared.queries.QueryColumn.TheVariants.{Start, Goal, Charge, Capacity, Deadline, Heater}
use Rattle.files.specs.Faults.{Checked, then}
use Rattle.files.specs.Lines.{pieces}
use Rattle.files.specs.Names.{names_line}
use Rattle.files.specs.Values.{value, value_line}
use Rattle.files.specs.Files.{file_read}

abbrev pub query_columns : List QueryColumn
query_columns = Start ∷ Goal ∷ Charge ∷ Capacity ∷ Deadline ∷ Heater ∷ []

abbrev pub query_number : QueryColumn → ℕ
query_number Start = 0
query_number Goal = 1
query_number Charge = 2
query_number Capacity = 3
query_number Deadline = 4
query_number Heater = 5

-- columns are told apart by their numbers
abbrev pub query_same : QueryColumn → QueryColumn → Bool
query_same c d = query_number c == query_number d

abbrev pub query_named : List ℕ → Option QueryColumn
query_named f =
    cond (bytes_eq f (codes "start")) (Some Start)
    (cond (bytes_eq f (codes "goal")) (Some Goal)
    (cond (bytes_eq f (codes "charge")) (Some Charge)
    (cond (bytes_eq f (codes "capacity")) (Some Capacity)
    (cond (bytes_eq f (codes "deadline")) (Some Deadline)
    (cond (bytes_eq f (codes "heater")) (Some Heater) None)))))

-- the query with a value in one column
abbrev pub with_value : Question → QueryColumn → ℕ → Question
with_value q Start v = record { start = v; goal = q.goal; charge = q.charge; capacity = q.capacity; deadline = q.deadline; heater = q.heater }
with_value q Goal v = record { start = q.start; goal = v; charge = q.charge; capacity = q.capacity; deadline = q.deadline; heater = q.heater }
with_value q Charge v = record { start = q.start; goal = q.goal; charge = v; capacity = q.capacity; deadline = q.deadline; heater = q.heater }
with_value q Capacity v = record { start = q.start; goal = q.goal; charge = q.charge; capacity = v; deadline = q.deadline; heater = q.heater }
with_value q Deadline v = record { start = q.start; goal = q.goal; charge = q.charge; capacity = q.capacity; deadline = v; heater = q.heater }
with_value q Heater v = record { start = q.start; goal = q.goal; charge = q.charge; capacity = q.capacity; deadline = q.deadline; heater = v }

-- any value may stand in any column, whatever junctions there is room for
abbrev pub query_filled : ℕ → Question → QueryColumn → List ℕ → Checked Question
query_filled room q c f = then (value f) (λ v. Ok (with_value q c v))

-- before its fields are read
abbrev pub blank_query : Question
blank_query = record { start = 0; goal = 0; charge = 0; capacity = 0; deadline = 0; heater = 0 }

abbrev pub query_names_line : List ℕ → Result (List QueryColumn) LineFault
query_names_line p = names_line query_same query_named query_columns (pieces 32 p)

abbrev pub query_line : List QueryColumn → List ℕ → Result Question LineFault
query_line cs p = value_line (query_filled 0) cs blank_query (pieces 32 p)

-- one query line more
abbrev pub query_taken : List QueryColumn → List Question → List ℕ → Result (List Question) LineFault
query_taken cs qs p = then (query_line cs p) (λ q. Ok (qs ++ q ∷ []))

-- the queries of a query file in the order of its lines, or its first fault
abbrev pub query_list : List ℕ → Result (List Question) FileFault
query_list bytes = file_read Queries query_names_line query_taken [] (pieces 10 bytes)
