use Rattle.std.proofs.Common.{◌≡◌, ℕ, Option, None, Some, MatchOption, Ok, rules, ap, ◌∙◌}
use Rattle.std.proofs.lemmas.Result.{err_from_is_err_and}
use Rattle.maps.specs.Heater.{heated, heated_road}
use Rattle.maps.specs.declared.road.Road.{Road}
use Rattle.maps.proofs.RowsAnswered.{layer_refused, layer_found, answered_at}
use Rattle.maps.proofs.heater.HeaterMap.place.Goals as goal

pub returns-in_err-road : goal.returns-in_err-road
returns-in_err-road g c =
    let p = err_from_is_err_and c.from_residual.result c.from_residual.ensures.1 in
    rw (p.1, p.2) (layer_refused _ _ _ _ _ c.in_err-road.ensures)

pub and_then-requires : goal.and_then-requires
and_then-requires g c =
    λ road is _ _ _ _ _.
    let fits = (g.M.Map.sound c.args.self.now.below).fits c.args.junction c.args.place road (answered_at _ _ _ _ c.in_ok-road.ensures ∙ is) in
    (fits.most, fits.low, fits.high)

heats : (power : ℕ) (o r : Option Road) → MatchOption o (r ≡ None) (λ road. r ≡ heated_road power road) → r ≡ heated power o
heats power None r h = h
heats power (Some road) r h = h

pub returns : goal.returns
returns g c =
    let told : MatchOption c.in_ok-road.road (c.and_then.result ≡ None) (λ road. c.and_then.result ≡ heated_road c.args.self.now.power.watts road) = search rules in
    ap Ok (heats _ _ _ told) ∙ layer_found _ _ _ _ _ c.in_ok-road.ensures
