-- The first failure of a row of checks, found by a loop.
use Rattle.std.specs.Prelude.{◌≡◌, ℕ, zero, suc, ◌+◌, ◌<◌, ◌≤◌, Some, None, Option, refl}
use Rattle.std.proofs.Common.{sym, ap, ◌∙◌, ⊎_elim, add-one, arith}
use Rattle.std.proofs.lemmas.Bool.{cases_lt}
use Rattle.std.proofs.lemmas.Option.{none-some}
use Rattle.maps.specs.FirstFailure.{or_else, first_failure}

pub first_failure_none : {X : Type 0} (f : ℕ → Option X) → first_failure f 0 ≡ None
unfolding first_failure
first_failure_none f = refl

-- one check more passes
pub first_failure_more : {X : Type 0} (f : ℕ → Option X) (i : ℕ) → first_failure f i ≡ None → f i ≡ None → first_failure f (i + 1) ≡ None
unfolding first_failure
first_failure_more f i p q = ap (first_failure f) (add-one i) ∙ (ap (λ o. or_else o (f i)) p ∙ q)

-- a failure found stays the first
pub first_failure_stays : {X : Type 0} (f : ℕ → Option X) (n m : ℕ) (x : X) → m ≤ n → first_failure f m ≡ Some x → first_failure f n ≡ Some x
unfolding first_failure
first_failure_stays f zero m x p s = let e : m ≡ 0 = omega arith in ap (first_failure f) (sym e) ∙ s
first_failure_stays f (suc n) m x p s =
    ⊎_elim
    (λ (q : m < suc n). ap (λ o. or_else o (f n)) (first_failure_stays f n m x (omega arith) s))
    (λ (q : suc n ≤ m). let e : suc n ≡ m = omega arith in ap (first_failure f) e ∙ s)
    (cases_lt m (suc n))

pub first_failure_here : {X : Type 0} (f : ℕ → Option X) (n i : ℕ) (x : X) → i < n → first_failure f i ≡ None → f i ≡ Some x → Some x ≡ first_failure f n
unfolding first_failure
first_failure_here f n i x h p q = sym (first_failure_stays f n (suc i) x h (ap (λ o. or_else o (f i)) p ∙ q))

pub or_else_none : {X : Type 0} (a b : Option X) → or_else a b ≡ None → (a ≡ None) × (b ≡ None)
or_else_none None b e = (refl, e)
or_else_none (Some x) b e = absurd (none-some x (sym e))

-- where none is found, each check passes
pub first_failure_each : {X : Type 0} (f : ℕ → Option X) (n i : ℕ) → i < n → first_failure f n ≡ None → f i ≡ None
unfolding first_failure
first_failure_each f zero i h e = absurd (omega arith)
first_failure_each f (suc n) i h e =
    ⊎_elim
    (λ (q : i < n). first_failure_each f n i q (or_else_none (first_failure f n) (f n) e).0)
    (λ (q : n ≤ i). let s : i ≡ n = omega arith in ap f s ∙ (or_else_none (first_failure f n) (f n) e).1)
    (cases_lt i n)
