-- The shape of every promise: refused exactly when a check fails, by the first that does, and then nothing has changed.
use Rattle.std.specs.Prelude.{◌≡◌, Some, None, Ok, Err, Option, Result}
use Rattle.refusals.specs.declared.refusal.Refusal.{Refusal}

-- check: the first check that fails, if one does; unchanged: that nothing has changed; accepted: what holds of an accepted call's answer
abbrev pub Refuses : {A : Type 0} → Option Refusal → Result A Refusal → Type 0 → (A → Type 0) → Type 0
Refuses None (Ok a) unchanged accepted = accepted a
Refuses None (Err e) unchanged accepted = ⊥
Refuses (Some f) (Ok a) unchanged accepted = ⊥
Refuses (Some f) (Err e) unchanged accepted = (e ≡ f) × unchanged
