-- How a label's walk is read back, leg by leg. Nothing on this page has to be believed: the promises do not speak of it.
use Rattle.std.specs.Prelude.{◌≡◌, ℕ, List, [], ◌∷◌, ◌++◌, Some, None, Option}
use Rattle.front.specs.declared.label.Label.{Label}
use Rattle.front.specs.declared.leg.Leg.{Leg}
use Rattle.front.specs.Labels.{Traces}
use Rattle.search.specs.declared.search.trace.LegsBack.{LegsBack}

-- the last leg of what label n's links trace is this, and label m's trace the legs before it; where there is none, they trace none
abbrev pub LastLegOf : {L : Type 0} → List (Label L) → ℕ → Option (Leg L) → ℕ → Type 0
LastLegOf {L} ls n None m = (w : List (Leg L)) → Traces ls n w → w ≡ []
LastLegOf {L} ls n (Some leg) m = (w : List (Leg L)) → Traces ls n w → (v : List (Leg L)) × Traces ls m v × (w ≡ v ++ leg ∷ [])

abbrev pub OneLegBack : {L : Type 0} → LegsBack L → Option (Leg L) → LegsBack L → Type 0
OneLegBack s r t = (t.labels ≡ s.labels) × LastLegOf s.labels.now s.label r t.label
