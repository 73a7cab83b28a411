use Rattle.std.proofs.Common.{◌≡◌, ℕ, ◌<◌, ◌≤◌, true, nat_lt, List, length, Option, rules, sym, ◌∙◌}
use Rattle.std.specs.List.{list_any}
use Rattle.std.proofs.lemmas.Iterator.{YieldsList-from_slice}
use Rattle.std.proofs.lemmas.Iterator.Search.{any_from_yields_List}
use Rattle.std.proofs.lemmas.Bool.{cond-true, cond-false, lt-ltb, le-ltb}
use Rattle.refusals.specs.declared.refusal.Refusal.{Refusal}
use Rattle.refusals.specs.declared.refusal.Refusal.TheVariants.{PlaceAboveEleven}
use Rattle.maps.specs.FirstFailure.{first_failure}
use Rattle.maps.proofs.FailingAlike.{first_of_alike}
use Rattle.loads.specs.Meaning.{Meaning}
use Rattle.walks.specs.Trial.{place_fault, trial_refusal}
use Rattle.walks.proofs.trial.check.Goals as goal

-- where the start, the load and the deadline pass, the places decide
places_decide : {L : Type 0} (n : ℕ) (m : Meaning L) (start : ℕ) (f : L) (deadline : ℕ) (places : List ℕ) (o : Option Refusal) → start < n → true ≡ m.admits f → deadline ≤ 999999
    → o ≡ first_failure (place_fault places) (length places) → o ≡ trial_refusal n m start f deadline places
places_decide n m start f deadline places o p q r e = rw (lt-ltb start n p, ← q, le-ltb 999999 deadline r) e

pub returns-then-any : goal.returns-then-any
returns-then-any g c =
    let w = c.args.walk.now in
    let told : c.any.result ≡ list_any (nat_lt 11) w.places.now = any_from_yields_List (nat_lt 11) _ _ _ c.any.ensures.ran (YieldsList-from_slice w.places.now c.iter.ensures.rest) (search rules) in
    places_decide (length (g.M.Map.rows c.args.map.now)) (g.K.Kind.meaning c.args.kind.now) w.start w.load w.deadline w.places.now _ (rw c.junctions.ensures at c.if-walk-junctions.false) c.if-not-admits.ensures c.if-walk-gt-LATEST_DEADLINE.false
    (sym (first_of_alike PlaceAboveEleven (nat_lt 11) w.places.now ∙ cond-true _ _ _ (sym told ∙ c.if-any.true)))

pub returns : goal.returns
returns g c =
    let w = c.args.walk.now in
    let told : c.any.result ≡ list_any (nat_lt 11) w.places.now = any_from_yields_List (nat_lt 11) _ _ _ c.any.ensures.ran (YieldsList-from_slice w.places.now c.iter.ensures.rest) (search rules) in
    places_decide (length (g.M.Map.rows c.args.map.now)) (g.K.Kind.meaning c.args.kind.now) w.start w.load w.deadline w.places.now _ (rw c.junctions.ensures at c.if-walk-junctions.false) c.if-not-admits.ensures c.if-walk-gt-LATEST_DEADLINE.false
    (sym (first_of_alike PlaceAboveEleven (nat_lt 11) w.places.now ∙ cond-false _ _ _ (sym told ∙ c.if-any.false)))
