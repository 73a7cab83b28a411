-- A table whose first places are written one after the other.
use Rattle.std.proofs.Common.{◌≡◌, ℕ, ◌+◌, ◌<◌, ◌≤◌, List, [], ◌∷◌, ◌++◌, length, take, drop, set, sym, refl, ap, ◌∙◌, append_assoc, append-nil, arith, length-set}
use Rattle.std.proofs.lemmas.List.{take_more_set, drop-set-lt, length-take-le, take-append-drop}
use Rattle.std.proofs.lemmas.Grind.{drop_more_same}

-- the first i places hold the first i of all, of which these are left, and the others hold what they held
pub record Written {X : Type 0} (all old now left : List X) (i : ℕ) : Type 0 where
  pub fits : i + length left ≤ length now
  pub first : take i now ++ left ≡ all
  pub later : drop i now ≡ drop i old

pub nothing_written : {X : Type 0} (old all : List X) → length all ≤ length old → Written all old old all 0
nothing_written old all fits = record { fits = omega arith; first = refl; later = refl }

pub one_more_written : {X : Type 0} (all old now left left' : List X) (i i' j : ℕ) (x : X) → j ≡ i → i' ≡ i + 1 → left ≡ x ∷ left' → Written all old now left i → Written all old (set now j x) left' i'
one_more_written all old now left left' i i' j x at next split w =
    let inside : i < length now = omega (arith, w.fits, ap length split) in
    rw (at, next) (record {
      fits = omega (arith, w.fits, ap length split, length-set now i x);
      first = ap (λ t. t ++ left') (take_more_set now i x inside) ∙ append_assoc (take i now) (x ∷ []) left' ∙ ap (λ t. take i now ++ t) (sym split) ∙ w.first;
      later = drop-set-lt (i + 1) now i x (omega arith) ∙ drop_more_same now old i w.later;
    })

pub all_written : {X : Type 0} (all old now left : List X) (i : ℕ) → left ≡ [] → Written all old now left i → now ≡ all ++ drop (length all) old
all_written all old now left i none w =
    let whole : take i now ≡ all = sym (append-nil (take i now)) ∙ ap (λ t. take i now ++ t) (sym none) ∙ w.first in
    let count : length all ≡ i = sym (ap length whole) ∙ length-take-le i now (omega (arith, w.fits)) in
    sym (take-append-drop i now) ∙ ap (λ t. t ++ drop i now) whole ∙ ap (λ t. all ++ t) (w.later ∙ ap (λ n. drop n old) (sym count))

pub ruleset written = (nothing_written, one_more_written, all_written)
