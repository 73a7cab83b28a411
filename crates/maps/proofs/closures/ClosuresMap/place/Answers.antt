use Rattle.std.proofs.Common.{Ok, sym, ap, ◌∙◌}
use Rattle.std.proofs.lemmas.Result.{err_from_is_err_and}
use Rattle.std.proofs.lemmas.Bool.{cond-true, cond-false}
use Rattle.maps.proofs.RowsAnswered.{layer_refused, layer_found}
use Rattle.maps.proofs.closures.ClosuresMap.place.Goals as goal

pub returns-in_err-road : goal.returns-in_err-road
returns-in_err-road g c =
    let p = err_from_is_err_and c.from_residual.result c.from_residual.ensures.1 in
    rw (p.1, p.2) (layer_refused _ _ _ _ _ c.in_err-road.ensures)

pub returns-then-is_shut : goal.returns-then-is_shut
returns-then-is_shut g c = ap Ok (sym (cond-true _ _ _ (sym c.if-is_shut.ensures))) ∙ layer_found _ _ _ _ _ c.in_ok-road.ensures

pub returns-else-is_shut : goal.returns-else-is_shut
returns-else-is_shut g c = ap Ok (sym (cond-false _ _ _ (sym c.if-is_shut.ensures))) ∙ layer_found _ _ _ _ _ c.in_ok-road.ensures
