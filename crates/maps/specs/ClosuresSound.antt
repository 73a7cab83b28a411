-- Closures over a sound map give a sound map.
use Rattle.std.specs.Prelude.{◌≡◌, Bool, true, false, cond, List, Some, None, Option}
use Rattle.std.proofs.lemmas.Option.{none-some}
use Rattle.maps.specs.declared.road.Road.{Road}
use Rattle.maps.specs.Rows.{Rows, at, Sound}
use Rattle.maps.specs.RowsSound.{sound_layered}
use Rattle.maps.specs.Entries.{Entry, shut_at}
use Rattle.maps.specs.Closures.{open_rows}

left_open : (b : Bool) (o : Option Road) (e : Road) → cond b None o ≡ Some e → o ≡ Some e
left_open true o e s = absurd (none-some e s)
left_open false o e s = s

pub open_sound : (es : List Entry) (rows : Rows) → Sound rows → Sound (open_rows es rows)
open_sound es rows s = sound_layered _ rows s (λ v k e h. s.fits v k e (left_open (shut_at es v k) (at rows v k) e h))
