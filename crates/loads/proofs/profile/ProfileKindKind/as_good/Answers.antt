use Rattle.loads.proofs.AsGoodMeaning.{as_good_decides_the_meaning}
use Rattle.loads.proofs.profile.ProfileKindKind.as_good.Goals as goal

pub returns : goal.returns
returns c = record {
  by_three_comparisons = c.is_no_worse_than.ensures;
  exactly_when_both_are_loads_and_at_each_starting_charge_one_has_at_least_as_much = as_good_decides_the_meaning c.args.self.now.capacity.watt_hours c.args.one c.args.other _ c.is_no_worse_than.ensures;
}
