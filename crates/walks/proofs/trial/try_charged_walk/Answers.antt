use Rattle.std.proofs.Common.{length, sym, ap, ◌∙◌}
use Rattle.std.proofs.lemmas.Result.{err_from_is_err_and}
use Rattle.walks.proofs.ChargedTrial.{power_refused, capacity_refused, charged_trial}
use Rattle.walks.proofs.trial.try_charged_walk.Goals as goal

pub returns-in_err-power : goal.returns-in_err-power
returns-in_err-power g c =
    let p = err_from_is_err_and c.from_residual.result c.from_residual.ensures.1 in
    let h = c.in_err-power.ensures.accepted_exactly_up_to_6000_watts in
    record { legs_of_the_charge_over_the_heated_map = rw (p.1, p.2, h.1) (sym (power_refused (length (g.M.Map.rows c.args.map)) c.args.walk.watts c.args.walk.capacity c.args.walk.start c.args.walk.charge c.args.walk.places.now h.0)) }

pub returns-in_err-kind : goal.returns-in_err-kind
returns-in_err-kind g c =
    let p = err_from_is_err_and c.from_residual-in_err-kind.result c.from_residual-in_err-kind.ensures.1 in
    let w = c.in_ok-power.ensures.accepted_exactly_up_to_6000_watts in
    let h = c.in_err-kind.ensures.accepted_exactly_from_1_to_100000 in
    record { legs_of_the_charge_over_the_heated_map = rw (p.1, p.2, h.0) (sym (capacity_refused (length (g.M.Map.rows c.args.map)) c.args.walk.watts c.args.walk.capacity c.args.walk.start c.args.walk.charge c.args.walk.places.now w.0 h.1)) }

pub returns : goal.returns
returns g c =
    let w = c.in_ok-power.ensures.accepted_exactly_up_to_6000_watts in
    let k = c.in_ok-kind.ensures.accepted_exactly_from_1_to_100000 in
    let o = c.over-heated.ensures.over_this_map_with_this_power in
    record {
      legs_of_the_charge_over_the_heated_map =
          charged_trial (g.M.Map.rows c.args.map) c.args.walk.watts c.args.walk.capacity c.args.walk.start c.args.walk.charge c.args.walk.places.now c.try_walk.result w.0 k.0 k.1
          (g.M.Map.rows c.over-heated.result.below) c.over-heated.result.power.watts c.in_ok-kind.kind.capacity.watt_hours
          (ap g.M.Map.rows o.0) (ap (λ p. p.watts) o.1 ∙ w.1) k.2 c.try_walk.ensures.legs_up_to_the_first_road_that_cannot_be_driven;
    }
