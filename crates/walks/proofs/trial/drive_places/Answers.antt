use Rattle.std.proofs.Common.{vec_items, sym, ◌∙◌}
use Rattle.walks.proofs.TrialSteps.{one_leg_further, ending_goes_on, no_leg_further, ending_stops, no_leg_left, ending_at_the_end}
use Rattle.walks.proofs.trial.drive_places.Goals as goal

pub returns-in-Err : goal.returns-in-Err
returns-in-Err g c = (
  no_leg_further _ _ _ c.loop-place.van c.args.walk.now.places.now c.loop-place.place-index (vec_items c.loop-place.legs) _ c.loop-place.invariant.0 c.loop-place-test.true _ c.in-Err.ensures.where_the_road_leads_or_why_it_cannot_be_driven,
  sym (ending_stops _ _ _ c.loop-place.van c.args.walk.now.places.now c.loop-place.place-index c.loop-place-test.true _ c.in-Err.ensures.where_the_road_leads_or_why_it_cannot_be_driven) ∙ c.loop-place.invariant.1,
)

pub loop-place-preserved : goal.loop-place-preserved
loop-place-preserved g c = (
  one_leg_further _ _ _ c.loop-place.van c.args.walk.now.places.now c.loop-place.place-index (vec_items c.loop-place.legs) _ c.loop-place.invariant.0 c.loop-place-test.true c.in-Ok.next c.in-Ok.ensures.where_the_road_leads_or_why_it_cannot_be_driven (vec_items c.push.new.self) c.in_ok-push-in-Ok.ensures.items,
  sym (ending_goes_on _ _ _ c.loop-place.van c.args.walk.now.places.now c.loop-place.place-index c.loop-place-test.true c.in-Ok.next c.in-Ok.ensures.where_the_road_leads_or_why_it_cannot_be_driven) ∙ c.loop-place.invariant.1,
)

pub returns : goal.returns
returns g c = (
  no_leg_left _ _ _ c.loop-place.van c.args.walk.now.places.now c.loop-place.place-index (vec_items c.loop-place.legs) _ c.loop-place.invariant.0 c.loop-place-test.false,
  sym (ending_at_the_end _ _ _ c.loop-place.van c.args.walk.now.places.now c.loop-place.place-index c.loop-place-test.false) ∙ c.loop-place.invariant.1,
)
