-- The front of the worked query.
use Rattle.std.proofs.Common.{ℕ, List, [], ◌∷◌, refl, arith}
use Rattle.maps.specs.Rows.{Rows, Sound}
use Rattle.maps.specs.Heater.{heated, heated_rows}
use Rattle.loads.specs.declared.charge.Charge.{Charge}
use Rattle.loads.specs.ChargeLaws.{charges_lawful}
use Rattle.front.specs.declared.arrival.Arrival.{Arrival}
use Rattle.front.specs.declared.label.Label.{Label}
use Rattle.front.specs.Walks.{Valid}
use Rattle.front.specs.Front.{IsFront}
use Rattle.front.proofs.ListedLabels.{nothing_waits_so_the_front_is_listed}
use Rattle.worked.specs.WorkedMaps.{worked_rows}
use Rattle.worked.specs.WorkedQuery.{charged, query_on, worked_query, worked_front}
use Rattle.worked.proofs.FrontTestSound.{nothing_waits}
use Rattle.worked.proofs.WorkedMaps.{worked_map_is_sound, worked_place, worked_places, heated_worked_map_is_sound, heated_worked_places}

-- the label of an arrival, with the label before it and the place driven
abbrev pub label : {L : Type 0} → Arrival L → ℕ → ℕ → Label L
label a before place = record { arrival = a; before = before; place = place }

labels : List (Label Charge)
labels = label (charged 0 1000 0) 0 0 ∷ label (charged 40 300 2) 0 1 ∷ label (charged 60 700 1) 0 0 ∷ label (charged 70 50 3) 1 0 ∷ label (charged 110 300 3) 2 0 ∷ []

query_is_valid : (rows : Rows) → Sound rows → Valid (query_on rows)
query_is_valid rows sound = record { sound = sound; lawful = charges_lawful 1000 (omega arith); admitted = refl }

pub worked_query_is_valid : Valid worked_query
worked_query_is_valid = query_is_valid worked_rows worked_map_is_sound

pub front_of_the_worked_query : IsFront worked_query worked_front
unfolding labels
front_of_the_worked_query = nothing_waits_so_the_front_is_listed worked_query worked_query_is_valid labels (nothing_waits worked_query worked_query_is_valid 4 worked_place worked_places labels refl)

heated_query_is_valid : Valid (query_on (heated_rows 0 worked_rows))
heated_query_is_valid = query_is_valid (heated_rows 0 worked_rows) (heated_worked_map_is_sound 0)

pub front_under_a_heater_of_0_watts : IsFront (query_on (heated_rows 0 worked_rows)) worked_front
unfolding labels
front_under_a_heater_of_0_watts = nothing_waits_so_the_front_is_listed (query_on (heated_rows 0 worked_rows)) heated_query_is_valid labels (nothing_waits (query_on (heated_rows 0 worked_rows)) heated_query_is_valid 4 (λ v k. heated 0 (worked_place v k)) (heated_worked_places 0) labels refl)
