-- What is known of a check that passed.
use Rattle.std.proofs.Common.{◌≡◌, ℕ, Bool, true, false, cond, Some, None, Ok, Err, Option, Result, refl, arith}
use Rattle.files.specs.Faults.{then}

pub some_no_none : {X : Type 0} {x : X} → ◌≡◌ {A = Option X} (Some x) None → ⊥
some_no_none e = let z : ◌≡◌ {A = ℕ} 0 1 = cc in omega arith

pub some_value : {X : Type 0} {x y : X} → ◌≡◌ {A = Option X} (Some x) (Some y) → x ≡ y
some_value e = cc

pub ok_value : {X E : Type 0} {x y : X} → ◌≡◌ {A = Result X E} (Ok x) (Ok y) → x ≡ y
ok_value e = cc

pub err_value : {X E : Type 0} {x y : E} → ◌≡◌ {A = Result X E} (Err x) (Err y) → x ≡ y
err_value e = cc

pub ok_no_err : {X E : Type 0} {x : X} {y : E} → ◌≡◌ {A = Result X E} (Ok x) (Err y) → ⊥
ok_no_err e = let z : ◌≡◌ {A = ℕ} 0 1 = cc in omega arith

pub then_ok : {X Y E : Type 0} (x : Result X E) (f : X → Result Y E) (y : Y) → then x f ≡ Ok y → (v : X) × (x ≡ Ok v) × (f v ≡ Ok y)
then_ok (Ok v) f y e = (v, refl, e)
then_ok (Err z) f y e = let o : ◌≡◌ {A = ℕ} 0 1 = cc in absurd (omega arith)

pub cond_ok : {X E : Type 0} (b : Bool) (x y : X) (e : E) → cond b (Ok x) (Err e) ≡ Ok y → (b ≡ true) × (x ≡ y)
cond_ok true x y e h = (refl, ok_value h)
cond_ok false x y e h = let o : ◌≡◌ {A = ℕ} 0 1 = cc in absurd (omega arith)
