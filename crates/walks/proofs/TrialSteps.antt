-- A trial, one place further.
use Rattle.std.proofs.Common.{◌≡◌, ℕ, ◌+◌, ◌<◌, ◌≤◌, List, [], ◌∷◌, ◌++◌, length, get_or, drop, Ok, Err, sym, ap, ◌∙◌, append_assoc, append-nil, add-one, drop-cons}
use Rattle.std.proofs.lemmas.List.{drop_all}
use Rattle.maps.specs.Rows.{Rows}
use Rattle.loads.specs.Meaning.{Meaning}
use Rattle.front.specs.declared.arrival.Arrival.{Arrival}
use Rattle.front.specs.declared.leg.Leg.{Leg}
use Rattle.walks.specs.declared.trial.Stranding.{Stranding}
use Rattle.front.specs.Legs.{leg_of}
use Rattle.walks.specs.Trial.{step_by_place, legs_driven, ending_of}

module _ {L : Type 0} (rows : Rows) (m : Meaning L) (deadline : ℕ) (a : Arrival L) (places : List ℕ) (i : ℕ) where
  module _ (inside : i < length places) where
    here : drop i places ≡ get_or places i 0 ∷ drop (i + 1) places
    here = rw (add-one i) (drop-cons places i 0 inside)

    pub legs_go_on : (b : Arrival L) → Ok b ≡ step_by_place rows m deadline a (get_or places i 0) → legs_driven rows m deadline a (drop i places) ≡ leg_of a (get_or places i 0) b ∷ legs_driven rows m deadline b (drop (i + 1) places)
    unfolding legs_driven
    legs_go_on b h = rw (here, ← h)

    pub ending_goes_on : (b : Arrival L) → Ok b ≡ step_by_place rows m deadline a (get_or places i 0) → ending_of rows m deadline a (drop i places) ≡ ending_of rows m deadline b (drop (i + 1) places)
    unfolding ending_of
    ending_goes_on b h = rw (here, ← h)

    pub legs_stop : (e : Stranding) → Err e ≡ step_by_place rows m deadline a (get_or places i 0) → legs_driven rows m deadline a (drop i places) ≡ []
    unfolding legs_driven
    legs_stop e h = rw (here, ← h)

    pub ending_stops : (e : Stranding) → Err e ≡ step_by_place rows m deadline a (get_or places i 0) → ending_of rows m deadline a (drop i places) ≡ Err e
    unfolding ending_of
    ending_stops e h = rw (here, ← h)

  pub legs_at_the_end : length places ≤ i → legs_driven rows m deadline a (drop i places) ≡ []
  unfolding legs_driven
  legs_at_the_end past = rw (drop_all i places past)

  pub ending_at_the_end : length places ≤ i → ending_of rows m deadline a (drop i places) ≡ Ok tt
  unfolding ending_of
  ending_at_the_end past = rw (drop_all i places past)

  -- with the legs driven so far before them
  module _ (done all : List (Leg L)) (so_far : done ++ legs_driven rows m deadline a (drop i places) ≡ all) where
    pub one_leg_further : i < length places → (b : Arrival L) → Ok b ≡ step_by_place rows m deadline a (get_or places i 0) → (more : List (Leg L)) → more ≡ done ++ leg_of a (get_or places i 0) b ∷ [] → more ++ legs_driven rows m deadline b (drop (i + 1) places) ≡ all
    one_leg_further inside b h more pushed = ap (λ ls. ls ++ legs_driven rows m deadline b (drop (i + 1) places)) pushed ∙ (append_assoc done _ _ ∙ (ap (λ ls. done ++ ls) (sym (legs_go_on inside b h)) ∙ so_far))

    pub no_leg_further : i < length places → (e : Stranding) → Err e ≡ step_by_place rows m deadline a (get_or places i 0) → done ≡ all
    no_leg_further inside e h = sym (append-nil done) ∙ (ap (λ ls. done ++ ls) (sym (legs_stop inside e h)) ∙ so_far)

    pub no_leg_left : length places ≤ i → done ≡ all
    no_leg_left past = sym (append-nil done) ∙ (ap (λ ls. done ++ ls) (sym (legs_at_the_end past)) ∙ so_far)
