-- A trial of a charge over a heated map, once the heater's power and the capacity are accepted.
use Rattle.std.proofs.Common.{◌≡◌, ℕ, ◌<◌, ◌≤◌, List, length, Some, Result, ap, ◌∙◌, arith}
use Rattle.std.proofs.lemmas.Bool.Decides.{nat_tests}
use Rattle.refusals.specs.declared.refusal.Refusal.TheVariants.{HeaterPowerTooHigh, CapacityOutOfRange}
use Rattle.maps.specs.Rows.{Rows}
use Rattle.maps.specs.Heater.{heated_rows}
use Rattle.maps.specs.RowsSound.{length_layered}
use Rattle.loads.specs.Charge.{charge, charges}
use Rattle.loads.specs.declared.charge.Charge.{Charge}
use Rattle.walks.specs.declared.trial.Trial.{Trial}
use Rattle.walks.specs.declared.trial.NoTrial.{NoTrial}
use Rattle.walks.specs.Trial.{at_the_start, legs_driven, ending_of, trial_refusal, charged_trial_refusal, Tried}

module _ (n watts capacity start level : ℕ) (places : List ℕ) where
  pub power_refused : 6000 < watts → Some HeaterPowerTooHigh ≡ charged_trial_refusal n watts capacity start level places
  power_refused p = grind (arith, nat_tests)

  pub capacity_refused : watts ≤ 6000 → ((1 ≤ capacity) × (capacity ≤ 100000) → ⊥) → Some CapacityOutOfRange ≡ charged_trial_refusal n watts capacity start level places
  capacity_refused p q = grind (arith, nat_tests)

  pub both_accepted : watts ≤ 6000 → 1 ≤ capacity → capacity ≤ 100000 → trial_refusal n (charges capacity) start (charge level) 999999 places ≡ charged_trial_refusal n watts capacity start level places
  both_accepted p q r = grind (arith, nat_tests)

-- what is tried on a heated map is the charged trial
pub charged_trial : (rows : Rows) (watts capacity start level : ℕ) (places : List ℕ) (r : Result (Trial Charge) NoTrial) → watts ≤ 6000 → 1 ≤ capacity → capacity ≤ 100000
    → (below : Rows) (power most : ℕ) → below ≡ rows → power ≡ watts → most ≡ capacity
    → Tried (trial_refusal (length (heated_rows power below)) (charges most) start (charge level) 999999 places) (legs_driven (heated_rows power below) (charges most) 999999 (at_the_start start (charge level)) places) (ending_of (heated_rows power below) (charges most) 999999 (at_the_start start (charge level)) places) r
    → Tried (charged_trial_refusal (length rows) watts capacity start level places) (legs_driven (heated_rows watts rows) (charges capacity) 999999 (at_the_start start (charge level)) places) (ending_of (heated_rows watts rows) (charges capacity) 999999 (at_the_start start (charge level)) places) r
charged_trial rows watts capacity start level places r p q s below power most below_is power_is most_is tried =
    let same : trial_refusal (length (heated_rows watts rows)) (charges capacity) start (charge level) 999999 places ≡ charged_trial_refusal (length rows) watts capacity start level places =
    ap (λ n. trial_refusal n (charges capacity) start (charge level) 999999 places) (length_layered _ rows) ∙ both_accepted (length rows) watts capacity start level places p q s in
    rw (← same) (rw (below_is, power_is, most_is) at tried)
