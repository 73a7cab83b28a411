-- The first failure of a row of checks.
use Rattle.std.specs.Prelude.{ℕ, zero, suc, Some, None, Option}

-- of two checks, what the first failure says
abbrev pub or_else : {X : Type 0} → Option X → Option X → Option X
or_else (Some x) b = Some x
or_else None b = b

-- of the checks f 0, f 1 and so on below n, what the first failure says
unfoldable pub first_failure : {X : Type 0} → (ℕ → Option X) → ℕ → Option X
first_failure f zero = None
first_failure f (suc n) = or_else (first_failure f n) (f n)
