-- A road file means a list of roads, and its tables are the map of them: the k-th road from a junction is at its place k − 1.
use Rattle.std.specs.Prelude.{◌≡◌, ℕ, ◌+◌, ◌<◌, max, cond, List, [], ◌∷◌, ◌++◌, length, Some, None, Ok, Err, Option, Result, ◌==◌, nat_lt, slice_index, slice_index_or}
use Rattle.refusals.specs.declared.refusal.Refusal.TheVariants.{ThirteenthRoad}
use Rattle.maps.specs.declared.road.Road.{Road}
use Rattle.maps.specs.Table.{table_place, table_refusal}
use Rattle.files.specs.declared.fault.FileName.TheVariants.{Roads}
use Rattle.files.specs.declared.fault.LineFault.{LineFault}
use Rattle.files.specs.declared.fault.LineFault.TheVariants.{WholeLine}
use Rattle.files.specs.declared.fault.FileFault.{FileFault}
use Rattle.files.specs.declared.fault.ReadFault.{ReadFault}
use Rattle.files.specs.declared.fault.ReadFault.TheVariants.{NoMemory, InFile}
use Rattle.files.specs.declared.roads.RoadColumn.{RoadColumn}
use Rattle.files.specs.declared.roads.RoadLine.{RoadLine}
use Rattle.files.specs.declared.tables.RoadTables.{RoadTables}
use Rattle.files.specs.Faults.{then}
use Rattle.files.specs.Lines.{pieces}
use Rattle.files.specs.Roads.{blank_road, road_names_line, road_line}
use Rattle.files.specs.Tables.{Tables, tables}
use Rattle.files.specs.Files.{file_read}

-- the roads from a junction, in the order of their lines
abbrev pub leaving : ℕ → List RoadLine → List RoadLine
leaving v [] = []
leaving v (r ∷ rs) = cond (r.from == v) (r ∷ leaving v rs) (leaving v rs)

-- one above the largest junction named
abbrev pub junctions_named : List RoadLine → ℕ
junctions_named [] = 0
junctions_named (r ∷ rs) = max (max (r.from + 1) (r.to + 1)) (junctions_named rs)

-- one road more, unless its junction has twelve
abbrev pub road_listed : ℕ → List RoadColumn → List RoadLine → List ℕ → Result (List RoadLine) LineFault
road_listed room cs rs p = then (road_line room cs p) (λ r. cond (nat_lt (length (leaving r.from rs)) 12) (Ok (rs ++ r ∷ [])) (Err (WholeLine ThirteenthRoad)))

-- the road lines of a file, or its first fault
abbrev pub road_lines : ℕ → List ℕ → Result (List RoadLine) FileFault
road_lines room bytes = file_read Roads road_names_line (road_listed room) [] (pieces 10 bytes)

-- what is at place k of a junction with these roads
abbrev pub at_place : List RoadLine → ℕ → Option Road
at_place rs k = cond (nat_lt k (length rs)) (Some (record { head = (slice_index_or rs k blank_road).to; seconds = (slice_index_or rs k blank_road).seconds; draw = (slice_index_or rs k blank_road).draw })) None

-- tables are the map of a list of roads
pub record TablesOf (rs : List RoadLine) (t : Tables) : Type 0 where
  pub loads : table_refusal t.counts t.heads t.times t.draws ≡ None
  pub junctions_told : t.junctions ≡ junctions_named rs
  pub a_row_each : length t.counts ≡ junctions_named rs
  pub roads_counted : (v : ℕ) → v < junctions_named rs → slice_index t.counts v ≡ length (leaving v rs)
  pub roads_in_line_order : (v k : ℕ) → v < junctions_named rs → k < 12 → table_place t.counts t.heads t.times t.draws v k ≡ at_place (leaving v rs) k

-- an answer: the tables of the roads of the file, or its first fault, unless there is no memory
abbrev pub MapsTheRoads : Result RoadTables ReadFault → Result (List RoadLine) FileFault → Type 0
MapsTheRoads (Ok t) (Ok rs) = TablesOf rs (tables t)
MapsTheRoads (Ok t) (Err f) = ⊥
MapsTheRoads (Err NoMemory) r = Unit {0}
MapsTheRoads (Err (InFile f)) r = r ≡ Err f
