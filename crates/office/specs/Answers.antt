-- The answers to a query file on the map of a road file.
use Rattle.std.specs.Prelude.{◌≡◌, ℕ, List, Ok, Err, vec_items, Result, Vec}
use Rattle.std.specs.List.{AllZip}
use Rattle.std.specs.declared.alloc.Global.{Global}
use Rattle.refusals.specs.declared.refusal.Refusal.{Refusal}
use Rattle.questions.specs.declared.question.Question.{Question}
use Rattle.maps.specs.Rows.{Rows}
use Rattle.maps.specs.Table.{table_rows}
use Rattle.files.specs.declared.fault.FileFault.{FileFault}
use Rattle.files.specs.declared.fault.ReadFault.{ReadFault}
use Rattle.files.specs.declared.fault.ReadFault.TheVariants.{NoMemory, InFile}
use Rattle.files.specs.Tables.{Tables}
use Rattle.files.specs.RoadFile.{road_tables}
use Rattle.files.specs.Queries.{query_list}
use Rattle.planner.specs.declared.answer.Answer.{Answer}
use Rattle.planner.specs.Answer.{AnsweredBy, question_check, query_of}

-- the answer to one query, with 100 labels and 1,200 waiting records
abbrev pub Answered : Rows → Question → Result Answer Refusal → Type 0
Answered rows q answer = AnsweredBy (question_check rows q 100 1200) (query_of rows q) 100 answer

-- one answer for each query, in order
abbrev pub EachAnswered : Rows → List Question → List (Result Answer Refusal) → Type 0
EachAnswered rows = AllZip (Answered rows)

abbrev pub rows_of : Tables → Rows
rows_of t = table_rows t.counts t.heads t.times t.draws

-- the answers, where both files could be read
abbrev pub AnswersTo : Result Tables FileFault → Result (List Question) FileFault → List (Result Answer Refusal) → Type 0
AnswersTo (Ok t) (Ok qs) answers = EachAnswered (rows_of t) qs answers
AnswersTo (Ok t) (Err f) answers = ⊥
AnswersTo (Err f) qs answers = ⊥

-- the first fault: of the road file, else of the query file
abbrev pub FirstFault : Result Tables FileFault → Result (List Question) FileFault → FileFault → Type 0
FirstFault (Err f) qs fault = fault ≡ f
FirstFault (Ok t) (Err f) fault = fault ≡ f
FirstFault (Ok t) (Ok qs) fault = ⊥

-- of the bytes of a road file and of a query file, for up to 256 junctions
abbrev pub FilesAnswered : List ℕ → List ℕ → Result (Vec (Result Answer Refusal) Global) ReadFault → Type 0
FilesAnswered roads queries (Ok answers) = AnswersTo (road_tables 256 roads) (query_list queries) (vec_items answers)
FilesAnswered roads queries (Err (InFile f)) = FirstFault (road_tables 256 roads) (query_list queries) f
FilesAnswered roads queries (Err NoMemory) = Unit {0}
