use Rattle.std.proofs.Common.{Ok, sym, ap, ◌∙◌, arith}
use Rattle.std.proofs.lemmas.Result.{err_from_is_err_and}
use Rattle.files.specs.declared.fault.FileName.TheVariants.{Roads}
use Rattle.files.specs.declared.roads.RoadColumn.TheVariants.{From, To}
use Rattle.files.specs.Faults.{then}
use Rattle.files.specs.LinesLeft.{lines_left, row_read}
use Rattle.files.specs.Roads.{road_line}
use Rattle.files.specs.Tables.{tables, fits_in, with_road, trimmed}
use Rattle.files.proofs.RoadInRange.{road_in_range}
use Rattle.files.proofs.LinesTaken.{row_line, row_fault}
use Rattle.files.proofs.road_file.read_tables.Goals as goal

pub returns-in_err-road : goal.returns-in_err-road
returns-in_err-road c =
    let p = err_from_is_err_and c.from_residual-in_err-road.result c.from_residual-in_err-road.ensures.1 in
    let lines = c.loop-tables.lines in
    let line = road_line c.args.room c.in_ok-columns.columns in
    let left = lines_left lines in
    rw (p.1, p.2)
    (ap (λ x. then x (λ t. Ok (trimmed t)))
    (c.loop-tables.invariant.3
    ∙ row_fault Roads line (λ t r. then (fits_in t r) (λ _. Ok (with_road t r))) lines.taken (tables c.loop-tables.tables) left c.in_err-road.field-0.0
    (c.in_err-road.ensures.row_or_fault ∙ ap (λ x. row_read x lines.taken line left) c.loop-tables.invariant.0)))

pub put-requires : goal.put-requires
put-requires c =
    let lines = c.loop-tables.lines in
    let columns = c.in_ok-columns.columns in
    let row = row_line lines.file (road_line c.args.room columns) lines.taken (lines_left lines) c.in-Some.road (sym (ap Ok c.in-Some.is) ∙ c.in_ok-road.ensures.row_or_fault) in
    let fits = road_in_range c.args.room columns row.0 c.in-Some.road c.loop-tables.invariant.2 row.1 in
    (omega (arith, fits From, c.loop-tables.invariant.1), omega (arith, fits To, c.loop-tables.invariant.1))
