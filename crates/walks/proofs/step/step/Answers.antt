use Rattle.std.proofs.Common.{◌≡◌, ℕ, Some, None, Ok, Err, Option, Result, ap, ◌∙◌, arith}
use Rattle.std.specs.Option.{ok_or, option_flatten}
use Rattle.std.specs.Result.{result_ok}
use Rattle.std.proofs.lemmas.Option.{none-some}
use Rattle.std.proofs.lemmas.Result.{err_from_is_err_and}
use Rattle.refusals.specs.declared.refusal.Refusal.{Refusal}
use Rattle.maps.specs.declared.road.Road.{Road}
use Rattle.maps.specs.Rows.{Rows, Sound, at, answered}
use Rattle.maps.proofs.RowsAnswered.{answered_at, refused_place_holds_no_road}
use Rattle.walks.proofs.step.step.Goals as goal

no_road : (rows : Rows) (v k : ℕ) (r : Result (Option Road) Refusal) → Sound rows → r ≡ answered rows v k → None ≡ option_flatten (result_ok r) → at rows v k ≡ None
no_road rows v k (Ok None) s h e = answered_at rows v k None h
no_road rows v k (Ok (Some road)) s h e = absurd (none-some road e)
no_road rows v k (Err x) s h e = refused_place_holds_no_road rows v k x s h

-- a question whether a road is there failed: none is
failed : {X E : Type 0} (o : Option X) (why e : E) → Err e ≡ ok_or o why → (None ≡ o) × (e ≡ why)
failed None why e h = grind arith
failed (Some x) why e h = grind arith

pub returns-in_err-road : goal.returns-in_err-road
returns-in_err-road g c =
    let from = c.args.from.junction in
    let p = err_from_is_err_and c.from_residual.result c.from_residual.ensures.1 in
    let h = failed _ _ _ c.in_err-road.ensures.value in
    let empty : at (g.M.Map.rows c.args.map.now) from c.args.place ≡ None =
    no_road _ from c.args.place c.place.result (g.M.Map.sound c.args.map.now) c.place.ensures (h.0 ∙ (c.flatten.ensures ∙ ap option_flatten c.ok.ensures.value)) in
    record { where_the_road_leads_or_why_it_cannot_be_driven = rw (p.1, p.2, h.1, empty) }
