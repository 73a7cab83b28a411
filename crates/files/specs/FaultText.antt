-- How a file's fault is written.
use Rattle.std.specs.Prelude.{ℕ, List, ◌++◌, codes, decimal}
use Rattle.refusals.specs.Numbers.{number}
use Rattle.files.specs.declared.fault.FileName.{FileName}
use Rattle.files.specs.declared.fault.FileName.TheVariants.{Roads, Queries}
use Rattle.files.specs.declared.fault.FileFault.{FileFault}

-- what a file is called in the working directory
abbrev pub file_name : FileName → List ℕ
file_name Roads = codes "roads.txt"
file_name Queries = codes "queries.txt"

-- the file, the line, the field and the number of the refusal, with a space between each two
abbrev pub fault_text : FileFault → List ℕ
fault_text f = file_name f.file ++ (codes " " ++ (decimal f.line ++ (codes " " ++ (decimal f.field ++ (codes " " ++ decimal (number f.refusal))))))
