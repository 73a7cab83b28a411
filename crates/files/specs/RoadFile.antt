-- A road file: the first fault from the top, or the tables of its roads.
use Rattle.std.specs.Prelude.{ℕ, List, Ok, Result}
use Rattle.files.specs.declared.fault.FileName.TheVariants.{Roads}
use Rattle.files.specs.declared.fault.LineFault.{LineFault}
use Rattle.files.specs.declared.fault.FileFault.{FileFault}
use Rattle.files.specs.declared.roads.RoadColumn.{RoadColumn}
use Rattle.files.specs.Faults.{then}
use Rattle.files.specs.Lines.{pieces}
use Rattle.files.specs.Roads.{road_names_line, road_line}
use Rattle.files.specs.Tables.{Tables, empty_tables, fits_in, with_road, trimmed}
use Rattle.files.specs.Files.{file_read}

-- one road line more: its own faults, then a thirteenth road
abbrev pub road_taken : ℕ → List RoadColumn → Tables → List ℕ → Result Tables LineFault
road_taken room cs t p = then (road_line room cs p) (λ r. then (fits_in t r) (λ _. Ok (with_road t r)))

abbrev pub road_file : ℕ → Tables → List (List ℕ) → Result Tables FileFault
road_file room t ps = file_read Roads road_names_line (road_taken room) t ps

-- the tables of a road file, for junctions below room, or its first fault
abbrev pub road_tables : ℕ → List ℕ → Result Tables FileFault
road_tables room bytes = then (road_file room (empty_tables room) (pieces 10 bytes)) (λ t. Ok (trimmed t))
