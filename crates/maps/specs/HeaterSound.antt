-- A heater over a sound map gives a sound map.
use Rattle.std.specs.Prelude.{◌≡◌, ℕ, true, length, pos, negsuc, ◌+ℤ◌, ◌≤ℤ◌, Some, None, Option, int_le, refl}
use Rattle.std.proofs.Common.{arith}
use Rattle.std.proofs.lemmas.Int.{ints}
use Rattle.std.proofs.lemmas.Option.{none-some}
use Rattle.maps.specs.declared.road.Road.{Road}
use Rattle.maps.specs.Rows.{Rows, at, Fits, Sound}
use Rattle.maps.specs.Heater.{extra, heated, heated_rows}
use Rattle.maps.specs.SomeRoad.{under}
use Rattle.maps.specs.RowsSound.{sound_layered}

high_draw : (p : ℕ) (e : Road) → int_le (e.draw +ℤ pos (extra p e.seconds)) (pos 100000) ≡ true → (e.draw +ℤ pos (extra p e.seconds)) ≤ℤ pos 100000
high_draw p e t = omega (arith, ints)

low_draw : (n p : ℕ) (e : Road) → Fits n e → negsuc 99999 ≤ℤ (e.draw +ℤ pos (extra p e.seconds))
low_draw n p e f = omega (arith, ints)

pub heated_fits : (n p : ℕ) (o : Option Road) → ((e : Road) → o ≡ Some e → Fits n e) → (e : Road) → heated p o ≡ Some e → Fits n e
heated_fits n p None below e s = absurd (none-some e s)
heated_fits n p (Some x) below e s =
    let f = below x refl in
    under _ _ (Fits n) (λ t. record { head = f.head; least = f.least; most = f.most; low = low_draw n p x f; high = high_draw p x t }) e s

pub heated_sound : (p : ℕ) (rows : Rows) → Sound rows → Sound (heated_rows p rows)
heated_sound p rows s = sound_layered _ rows s (λ v k. heated_fits (length rows) p (at rows v k) (s.fits v k))
