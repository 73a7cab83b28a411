-- The arithmetic of an estate: where its roads lead.
use Rattle.std.specs.Prelude.{◌≡◌, ℕ, ◌+◌, ◌*◌, ◌/◌, ◌%◌, ◌<◌, ◌≤◌, ℤ, pos, negsuc, ◌≤ℤ◌, Some, ◌==◌}
use Rattle.std.proofs.Common.{arith}
use native.Mathlib.Nat.{le_refl}
use Rattle.std.proofs.lemmas.Nat.{mul-le, mul-add-lt, div-add-mod', div_below, mod_below}
use Rattle.std.proofs.lemmas.Bool.{ltb-true}
use Rattle.std.proofs.lemmas.Int.{ints}
use Rattle.std.proofs.lemmas.Option.{none-some}
use Rattle.maps.specs.declared.estate.EstateNumbers.{EstateNumbers}
use Rattle.maps.specs.declared.road.Road.{Road}
use Rattle.maps.specs.Rows.{Fits, Sound}
use Rattle.maps.specs.Estate.{estate_place, estate_rows}
use Rattle.maps.specs.SomeRoad.{under, either}
use Rattle.maps.specs.RowsSound.{sound_tabulated}

pub width_below : (w h : ℕ) → 1 ≤ h → w ≤ w * h
width_below w h p = omega (arith, mul-le w 1 w h (le_refl w) p)

-- the row above the first is at least a width away
pub width_behind : (w v : ℕ) → 0 < v / w → w ≤ v
width_behind w v p = omega (arith, mul-le 1 w (v / w) w p (le_refl w), div-add-mod' v w)

module _ (w h v : ℕ) (some : 1 ≤ w) (in_it : v < w * h) where
  next_row : v / w + 1 < h → v + w < w * h
  next_row p = omega (arith, mul-add-lt (v / w + 1) w (v % w) h p (mod_below v w some), div-add-mod' v w, native.Mathlib.Nat.add-mul (v / w) 1 w)

  next_column : v % w + 1 < w → v + 1 < w * h
  next_column p = omega (arith, mul-add-lt (v / w) w (v % w + 1) h (div_below v w h some (omega (arith, native.Mathlib.Nat.mul_comm w h))) p, div-add-mod' v w)

module _ (numbers : EstateNumbers) (a : 1 ≤ numbers.width) (b : 1 ≤ numbers.height) (c : numbers.width * numbers.height ≤ 9600) (t1 : 1 ≤ numbers.seconds) (t2 : numbers.seconds ≤ 7200) (d2 : numbers.flat ≤ 50000) (g2 : numbers.rise ≤ 50000) where
  -- a road to a head below n, whose draw is in range, fits
  fit : (head : ℕ) (draw : ℤ) → head < numbers.width * numbers.height → negsuc 99999 ≤ℤ draw → draw ≤ℤ pos 100000 → Fits (numbers.width * numbers.height) (record { head = head; seconds = numbers.seconds; draw = draw })
  fit head draw p low high = record { head = p; least = t1; most = t2; low = low; high = high }

  pub estate_fits : (v k : ℕ) (e : Road) → v < numbers.width * numbers.height → k < 12 → estate_place numbers v k ≡ Some e → Fits (numbers.width * numbers.height) e
  estate_fits v k e p q =
      either (k == 0) _ _ (Fits (numbers.width * numbers.height)) (under _ _ (Fits (numbers.width * numbers.height)) (λ u. fit _ _ (next_row numbers.width numbers.height v a p (ltb-true _ _ u)) (omega (arith, ints)) (omega (arith, ints))))
      (either (k == 1) _ _ (Fits (numbers.width * numbers.height)) (under _ _ (Fits (numbers.width * numbers.height)) (λ u. fit _ _ (next_column numbers.width numbers.height v a p (ltb-true _ _ u)) (omega (arith, ints)) (omega (arith, ints))))
      (either (k == 2) _ _ (Fits (numbers.width * numbers.height)) (under _ _ (Fits (numbers.width * numbers.height)) (λ u. fit _ _ (omega arith) (omega (arith, ints)) (omega (arith, ints))))
      (either (k == 3) _ _ (Fits (numbers.width * numbers.height)) (under _ _ (Fits (numbers.width * numbers.height)) (λ u. fit _ _ (omega arith) (omega (arith, ints)) (omega (arith, ints))))
      (λ e s. absurd (none-some e s))))) e

  pub estate_sound : Sound (estate_rows numbers)
  estate_sound = sound_tabulated (numbers.width * numbers.height) (estate_place numbers) c estate_fits
