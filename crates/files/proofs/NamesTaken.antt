-- What is known of a names line that passed.
use Rattle.std.proofs.Common.{◌≡◌, ℕ, Bool, true, false, cond, eqb, List, [], length, Ok, Err, Option, sym, subst, eqb-true}
use Rattle.std.proofs.lemmas.Bool.{and_parts}
use Rattle.refusals.specs.declared.refusal.Refusal.TheVariants.{WrongNames}
use Rattle.files.specs.declared.fault.LineFault.TheVariants.{WholeLine}
use Rattle.files.specs.Faults.{then}
use Rattle.files.specs.Fields.{parted, none_empty}
use Rattle.files.specs.Names.{all_among, columns_named, complete, names_line}
use Rattle.files.proofs.FirstFault.{then_ok, cond_ok, ok_no_err}

pub parted_long : (n : ℕ) (ps : List (List ℕ)) → true ≡ parted n ps → length ps ≡ n
parted_long n ps e = eqb-true (length ps) n (and_parts (eqb (length ps) n) (none_empty ps) (sym e)).0

pub names_complete : {C : Type 0} (same : C → C → Bool) (named : List ℕ → Option C) (all : List C) (fs : List (List ℕ)) (cs : List C) → names_line same named all fs ≡ Ok cs → all_among same all cs ≡ true
names_complete same named all fs cs e =
    (elim (parted (length all) fs) as (λ b. cond b (then (columns_named named [] fs) (complete same all)) (Err (WholeLine WrongNames)) ≡ Ok cs → all_among same all cs ≡ true) [
      | true ↦ λ g.
          let s = then_ok (columns_named named [] fs) (complete same all) cs g in
          let t = cond_ok (all_among same all s.0) s.0 cs (WholeLine WrongNames) s.2 in
          subst (λ ds. all_among same all ds ≡ true) t.1 t.0
      | false ↦ λ g. absurd (ok_no_err (sym g))
    ]) e
