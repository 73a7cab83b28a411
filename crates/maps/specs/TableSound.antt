-- Tables that pass every check make a sound map.
use Rattle.std.specs.Prelude.{◌≡◌, ℕ, ◌+◌, ◌*◌, ◌/◌, ◌%◌, ◌<◌, ◌≤◌, Bool, true, false, cond, List, length, ℤ, pos, ◌≤ℤ◌, is_some, Some, None, Option, ◌==◌, int_lt, nat_lt, slice_index, slice_index_or, refl}
use Rattle.std.proofs.Common.{sym, ap, ◌∙◌, arith}
use Rattle.std.proofs.lemmas.Bool.{ltb-true, ltb-false, eqb-false, not-false, or_parts, true≢false}
use Rattle.std.proofs.lemmas.Int.{ints}
use Rattle.std.proofs.lemmas.Option.{none-some}
use Rattle.maps.specs.declared.road.Road.{Road}
use Rattle.refusals.specs.declared.refusal.Refusal.{Refusal}
use Rattle.maps.specs.Rows.{Fits, Sound}
use Rattle.maps.specs.FirstFailure.{first_failure}
use Rattle.maps.specs.Table.{lengths_fault, count_fault, road_fault, entry_fault, table_place, table_rows, table_refusal}
use Rattle.maps.specs.SomeRoad.{under}
use Rattle.maps.specs.FirstFailureFound.{first_failure_each, or_else_none}
use Rattle.maps.specs.RowsSound.{sound_tabulated}

-- a check that passed: its test was false, and so the rest passed
passes : (b : Bool) (x : Refusal) (y : Option Refusal) → cond b (Some x) y ≡ None → (b ≡ false) × (y ≡ None)
passes true x y e = absurd (none-some x (sym e))
passes false x y e = (refl, e)

none_from : (o : Option Refusal) → is_some o ≡ false → o ≡ None
none_from None e = refl
none_from (Some x) e = absurd (true≢false e)

not_under : (a b : ℤ) → int_lt a b ≡ false → b ≤ℤ a
not_under a b e = omega (arith, ints)

positive : (a : ℕ) → (a == 0) ≡ false → 1 ≤ a
positive a e = let p = eqb-false a 0 e in omega arith

pub road_fits : (n head seconds : ℕ) (draw : ℤ) → road_fault n head seconds draw ≡ None → Fits n (record { head = head; seconds = seconds; draw = draw })
road_fits n head seconds draw e =
    let a = passes _ _ _ e in
    let b = passes _ _ _ a.1 in
    let c = passes _ _ _ b.1 in
    let t = or_parts _ _ b.0 in
    let d = or_parts _ _ c.0 in
    record { head = ltb-true head n (not-false _ a.0); least = positive seconds t.0; most = ltb-false 7200 seconds t.1; low = not_under _ _ d.0; high = not_under _ _ d.1 }

module _ (counts heads times : List ℕ) (draws : List ℤ) (ok : is_some (table_refusal counts heads times draws) ≡ false) where
  split : (lengths_fault counts heads times draws ≡ None) × ((first_failure (count_fault counts) (length counts) ≡ None) × (first_failure (entry_fault counts heads times draws) (12 * length counts) ≡ None))
  split = let a = or_else_none _ _ (none_from _ ok) in (a.0, or_else_none _ _ a.1)

  pub table_few : length counts ≤ 9600
  table_few = ltb-false 9600 (length counts) (or_parts _ _ (or_parts _ _ (or_parts _ _ (passes _ _ _ split.0).0).0).0).0

  place_fits : (v k : ℕ) (e : Road) → v < length counts → k < 12 → table_place counts heads times draws v k ≡ Some e → Fits (length counts) e
  place_fits v k e p q = under _ _ (Fits (length counts)) (λ t. road_fits (length counts) _ _ _ (at_it t)) e
    where
      at_it : nat_lt k (slice_index counts v) ≡ true → road_fault (length counts) (slice_index heads (12 * v + k)) (slice_index times (12 * v + k)) (slice_index_or draws (12 * v + k) (pos 0)) ≡ None
      at_it t =
          let f = first_failure_each (entry_fault counts heads times draws) (12 * length counts) (12 * v + k) (omega arith) split.1.1 in
          let a : (12 * v + k) % 12 ≡ k = omega arith in
          let b : (12 * v + k) / 12 ≡ v = omega arith in
          sym (ap (λ c. cond c (road_fault (length counts) (slice_index heads (12 * v + k)) (slice_index times (12 * v + k)) (slice_index_or draws (12 * v + k) (pos 0))) None) (ap (λ x. nat_lt x (slice_index counts ((12 * v + k) / 12))) a ∙ (ap (λ x. nat_lt k (slice_index counts x)) b ∙ t))) ∙ f

  pub table_sound : Sound (table_rows counts heads times draws)
  table_sound = sound_tabulated (length counts) (table_place counts heads times draws) table_few place_fits
