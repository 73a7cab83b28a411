-- The links of a listed label trace one walk, which drives to the label through listed labels alone.
use Rattle.std.proofs.Common.{◌≡◌, ℕ, zero, suc, ◌<◌, ◌≤◌, ◌⊎◌, List, [], ◌∷◌, ◌++◌, length, get_or, take, sym, refl, ap, subst, inl, inr, arith}
use lib.ListN.{length-map}
use Rattle.std.specs.List.{ContainsAt as Has}
use Rattle.std.proofs.lemmas.List.{length_push, take-append-le, take_all, take-map}
use Rattle.std.proofs.lemmas.Bool.{cases_lt}
use Rattle.front.specs.Walks.{Query, Arrival, Leads, Drives, Walk, departure}
use Rattle.front.specs.Legs.{Leg, Stored, leg_of, DrivesLegs, no_leg, one_leg_more, places}
use Rattle.front.specs.Labels.{Label, ComesFrom, Traces, start_label, one_label_more, TracedWalk, WalkThroughLabels}
use Rattle.front.specs.Invariant.{Invariant}
use Rattle.front.proofs.Labels.{stored_get_or, stored_is_one}
use Rattle.front.proofs.Legs.{legs_drive_their_places}

links_of_equal_numbers_trace_one_walk : {L : Type 0} (ls : List (Label L)) {i j : ℕ} {v w : List (Leg L)} → Traces ls i v → Traces ls j w → i ≡ j → v ≡ w
links_of_equal_numbers_trace_one_walk ls start_label start_label e = refl
links_of_equal_numbers_trace_one_walk ls start_label (one_label_more j x y w p s lt f t) e = absurd (omega arith)
links_of_equal_numbers_trace_one_walk ls (one_label_more i x y w p s lt f t) start_label e = absurd (omega arith)
links_of_equal_numbers_trace_one_walk {L} ls (one_label_more i x y v p s lt f t) (one_label_more j x' y' w p' s' lt' f' t') e =
    let same_y : y ≡ y' = stored_is_one ls j y y' (subst (λ (n : ℕ). Stored ls n y) e s) s' in
    let same_before : y.before ≡ y'.before = ap (λ (z : Label L). z.before) same_y in
    let same_x : x ≡ x' = stored_is_one ls y'.before x x' (subst (λ (n : ℕ). Stored ls n x) same_before f) f' in
    let same_walk : v ≡ w = links_of_equal_numbers_trace_one_walk ls t t' same_before in
    cc

pub links_trace_one_walk : {L : Type 0} (ls : List (Label L)) (i : ℕ) (v w : List (Leg L)) → Traces ls i v → Traces ls i w → v ≡ w
links_trace_one_walk ls i v w t u = links_of_equal_numbers_trace_one_walk ls t u refl

pub traced_walk_is_through_labels : {L : Type 0} (q : Query L) (ls : List (Label L)) (i : ℕ) (x : Label L) (w : List (Leg L)) → TracedWalk q ls i x w → WalkThroughLabels q ls x (places w)
traced_walk_is_through_labels {L} q ls i x w r = record { drives = legs_drive_their_places q r.drives; beginnings = λ k h. go k (r.beginnings k (omega (arith, h, length-map w (λ (l : Leg L). l.place)))) }
  where
    go : (k : ℕ) → (j : ℕ) × (y : Label L) × (j ≤ i) × Stored ls j y × DrivesLegs q (take k w) y.arrival → (y : Label L) × Has ls y × Drives q (take k (places w)) y.arrival
    go k (j, y, le, s, d) = (y, (j, s.0, s.1), subst (λ (v : Walk). Drives q v y.arrival) (sym (take-map (λ (l : Leg L). l.place) k w)) (legs_drive_their_places q d))

module _ {L : Type 0} (q : Query L) (listed waiting : List (Label L)) (inv : Invariant q listed waiting) where
  no_label : Label L
  no_label = record { arrival = departure q; before = 0; place = 0 }

  -- the whole of a walk is a beginning of it
  whole_walk_is_a_beginning : (i : ℕ) (x : Label L) (w : List (Leg L)) (k : ℕ) → Stored listed i x → DrivesLegs q w x.arrival → length w ≤ k → (j : ℕ) × (y : Label L) × (j ≤ i) × Stored listed j y × DrivesLegs q (take k w) y.arrival
  whole_walk_is_a_beginning i x w k s r h = (i, x, omega arith, s, subst (λ (v : List (Leg L)). DrivesLegs q v x.arrival) (sym (take_all k w h)) r)

  one_label_on : (i : ℕ) (x y : Label L) (w : List (Leg L)) → Stored listed i y → y.before < i → Leads q x.arrival y.place y.arrival → TracedWalk q listed y.before x w → TracedWalk q listed i y (w ++ leg_of x.arrival y.place y.arrival ∷ [])
  one_label_on i x y w s lt l r = record { drives = drives; beginnings = λ k h. go k (cases_lt (length w) k) }
    where
      drives : DrivesLegs q (w ++ leg_of x.arrival y.place y.arrival ∷ []) y.arrival
      drives = one_leg_more r.drives l

      shorter : (k : ℕ) → k ≤ length w → (j : ℕ) × (z : Label L) × (j ≤ y.before) × Stored listed j z × DrivesLegs q (take k w) z.arrival → (j : ℕ) × (z : Label L) × (j ≤ i) × Stored listed j z × DrivesLegs q (take k (w ++ leg_of x.arrival y.place y.arrival ∷ [])) z.arrival
      shorter k h (j, z, le, sz, rz) = (j, z, omega (arith, le, lt), sz, subst (λ (v : List (Leg L)). DrivesLegs q v z.arrival) (sym (take-append-le k w (leg_of x.arrival y.place y.arrival ∷ []) h)) rz)

      go : (k : ℕ) → (length w < k) ⊎ (k ≤ length w) → (j : ℕ) × (z : Label L) × (j ≤ i) × Stored listed j z × DrivesLegs q (take k (w ++ leg_of x.arrival y.place y.arrival ∷ [])) z.arrival
      go k (inl h) = whole_walk_is_a_beginning i y (w ++ leg_of x.arrival y.place y.arrival ∷ []) k s drives (omega (arith, h, length_push w (leg_of x.arrival y.place y.arrival)))
      go k (inr h) = shorter k h (r.beginnings k h)

  links_of_a_number_trace_a_walk : (n i : ℕ) → i < n → i < length listed → (w : List (Leg L)) × Traces listed i w × TracedWalk q listed i (get_or listed i no_label) w
  links_of_a_number_trace_a_walk zero i h k = absurd (omega arith)
  links_of_a_number_trace_a_walk (suc n) zero h k =
      let r : DrivesLegs q [] (get_or listed 0 no_label).arrival = subst (λ (a : Arrival L). DrivesLegs q [] a) (sym (inv.first_label_is_the_departure no_label)) no_leg in
      ([], start_label, record { drives = r; beginnings = λ j le. whole_walk_is_a_beginning 0 (get_or listed 0 no_label) [] j (stored_get_or listed 0 no_label k) r (omega arith) })
  links_of_a_number_trace_a_walk (suc n) (suc i) h k =
      let y : Label L = get_or listed (suc i) no_label in
      let p : ComesFrom q listed (suc i) y = inv.each_later_label_comes_from_an_earlier_one (suc i) no_label (omega arith) k in
      let x : Label L = get_or listed y.before no_label in
      let (w, t, r) = links_of_a_number_trace_a_walk n y.before (omega (arith, p.earlier)) (omega (arith, p.earlier)) in
      (w ++ leg_of x.arrival y.place y.arrival ∷ [], one_label_more (suc i) x y w (omega arith) (stored_get_or listed (suc i) no_label k) p.earlier (stored_get_or listed y.before no_label (omega (arith, p.earlier))) t, one_label_on (suc i) x y w (stored_get_or listed (suc i) no_label k) p.earlier (p.leads no_label) r)

  pub links_of_a_listed_label_trace_a_walk_to_it : (i : ℕ) (x : Label L) → Stored listed i x → (w : List (Leg L)) × Traces listed i w × TracedWalk q listed i x w
  links_of_a_listed_label_trace_a_walk_to_it i x s = subst (λ (y : Label L). (w : List (Leg L)) × Traces listed i w × TracedWalk q listed i y w) (s.1 no_label) (links_of_a_number_trace_a_walk (suc i) i (omega arith) s.0)

  pub listed_label_has_a_walk_through_labels : (x : Label L) → Has listed x → (w : Walk) × WalkThroughLabels q listed x w
  listed_label_has_a_walk_through_labels x (i, h, e) = let (w, t, r) = links_of_a_listed_label_trace_a_walk_to_it i x (h, e) in (places w, traced_walk_is_through_labels q listed i x w r)
