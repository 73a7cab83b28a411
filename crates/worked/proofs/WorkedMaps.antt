-- The worked maps are sound, and what is at their places.
use Rattle.std.proofs.Common.{◌≡◌, ℕ, ◌<◌, false, length, is_some, Option, refl, ap, ◌∙◌, arith}
use Rattle.maps.specs.declared.road.Road.{Road}
use Rattle.maps.specs.Rows.{Rows, at, Sound, layered}
use Rattle.maps.specs.RowsSound.{at_tabulated, length_tabulated}
use Rattle.maps.specs.FirstFailure.{first_failure}
use Rattle.maps.specs.Table.{table_place, table_refusal}
use Rattle.maps.specs.TableSound.{table_sound}
use Rattle.maps.specs.Heater.{heated, heated_rows}
use Rattle.maps.specs.HeaterSound.{heated_sound}
use Rattle.worked.specs.WorkedMaps.{worked_counts, worked_heads, worked_times, worked_draws, worked_rows, loop_counts, loop_heads, loop_times, loop_draws, loop_rows}

worked_tables_pass : is_some (table_refusal worked_counts worked_heads worked_times worked_draws) ≡ false
unfolding first_failure
worked_tables_pass = refl

pub worked_map_is_sound : Sound worked_rows
worked_map_is_sound = table_sound worked_counts worked_heads worked_times worked_draws worked_tables_pass

abbrev pub worked_place : ℕ → ℕ → Option Road
worked_place = table_place worked_counts worked_heads worked_times worked_draws

pub worked_places : (v k : ℕ) → v < 4 → k < 12 → at worked_rows v k ≡ worked_place v k
worked_places v k h l = at_tabulated 4 worked_place v k h l

loop_tables_pass : is_some (table_refusal loop_counts loop_heads loop_times loop_draws) ≡ false
unfolding first_failure
loop_tables_pass = refl

pub loop_map_is_sound : Sound loop_rows
loop_map_is_sound = table_sound loop_counts loop_heads loop_times loop_draws loop_tables_pass

abbrev pub loop_place : ℕ → ℕ → Option Road
loop_place = table_place loop_counts loop_heads loop_times loop_draws

pub loop_places : (v k : ℕ) → v < 2 → k < 12 → at loop_rows v k ≡ loop_place v k
loop_places v k h l = at_tabulated 2 loop_place v k h l

at_layered : (g : ℕ → ℕ → Option Road → Option Road) (rows : Rows) (v k : ℕ) → v < length rows → k < 12 → at (layered g rows) v k ≡ g v k (at rows v k)
unfolding layered
at_layered g rows v k h l = at_tabulated (length rows) (λ v k. g v k (at rows v k)) v k h l

pub heated_worked_places : (power v k : ℕ) → v < 4 → k < 12 → at (heated_rows power worked_rows) v k ≡ heated power (worked_place v k)
heated_worked_places power v k h l = at_layered (λ v k o. heated power o) worked_rows v k (omega (arith, length_tabulated 4 worked_place)) l ∙ ap (heated power) (worked_places v k h l)

pub heated_worked_map_is_sound : (power : ℕ) → Sound (heated_rows power worked_rows)
heated_worked_map_is_sound power = heated_sound power worked_rows worked_map_is_sound
