use Rattle.std.proofs.Common.{◌≡◌, nat_lt, rules, sym, ◌∙◌}
use Rattle.std.specs.List.{list_any}
use Rattle.std.proofs.lemmas.Iterator.{YieldsList-from_slice}
use Rattle.std.proofs.lemmas.Iterator.Search.{any_from_yields_List}
use Rattle.std.proofs.lemmas.Bool.{cond-true, cond-false}
use Rattle.refusals.specs.declared.refusal.Refusal.TheVariants.{CountAboveTwelve}
use Rattle.maps.proofs.FailingAlike.{first_of_alike}
use Rattle.maps.proofs.table.Tables.check_counts.Goals as goal

pub returns-then-any : goal.returns-then-any
returns-then-any c =
    let told : c.any.result ≡ list_any (nat_lt 12) c.args.self.counts.now = any_from_yields_List (nat_lt 12) _ _ _ c.any.ensures.ran (YieldsList-from_slice c.args.self.counts.now c.iter.ensures.rest) (search rules) in
    sym (first_of_alike CountAboveTwelve (nat_lt 12) c.args.self.counts.now ∙ cond-true _ _ _ (sym told ∙ c.if-any.true))

pub returns : goal.returns
returns c =
    let told : c.any.result ≡ list_any (nat_lt 12) c.args.self.counts.now = any_from_yields_List (nat_lt 12) _ _ _ c.any.ensures.ran (YieldsList-from_slice c.args.self.counts.now c.iter.ensures.rest) (search rules) in
    sym (first_of_alike CountAboveTwelve (nat_lt 12) c.args.self.counts.now ∙ cond-false _ _ _ (sym told ∙ c.if-any.false))
