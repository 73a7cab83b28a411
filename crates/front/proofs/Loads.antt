-- What is admitted or compared is a load.
use Rattle.std.proofs.Common.{◌≡◌, Bool, true, false, sym, refl, ◌∙◌, true≢false}
use Rattle.loads.specs.Meaning.{Meaning}
use Rattle.loads.specs.Laws.{Laws}

module _ {L : Type 0} (m : Meaning L) (laws : Laws m) where
  load_unless_not : (f : L) → (m.is_load f ≡ false → ⊥) → m.is_load f ≡ true
  load_unless_not f h = go (m.is_load f) refl
    where
      go : (t : Bool) → m.is_load f ≡ t → t ≡ true
      go true e = refl
      go false e = absurd (h e)

  pub admitted_is_a_load : (f : L) → m.admits f ≡ true → m.is_load f ≡ true
  admitted_is_a_load f h = load_unless_not f (λ e. true≢false (sym h ∙ (laws.no_load_no_to_all f e).not_admitted))

  pub better_is_a_load : (f g : L) → m.as_good f g ≡ true → m.is_load f ≡ true
  better_is_a_load f g h = load_unless_not f (λ e. true≢false (sym h ∙ (laws.no_load_no_to_all f e).as_good_as_none g))

  pub worse_is_a_load : (f g : L) → m.as_good f g ≡ true → m.is_load g ≡ true
  worse_is_a_load f g h = load_unless_not g (λ e. true≢false (sym h ∙ (laws.no_load_no_to_all g e).none_as_good f))
