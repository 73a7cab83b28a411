-- Legs tell the drivable walks: those of their places, all of them, and each in one way.
use Rattle.std.proofs.Common.{◌≡◌, ℕ, List, [], ◌∷◌, ◌++◌, length, sym, refl, ap, ◌∙◌, subst, arith}
use Rattle.std.proofs.lemmas.List.{length_push, map_push, same_from_push}
use Rattle.front.specs.Walks.{Query, Arrival, Leads, Drives, empty_walk, one_road_more, Walk}
use Rattle.front.specs.Legs.{Leg, leg_of, DrivesLegs, no_leg, one_leg_more, places}
use Rattle.front.proofs.OneRoad.{place_leads_to_one_arrival}
use Rattle.front.proofs.Walks.{walk_has_one_arrival}

pub legs_drive_their_places : {L : Type 0} (q : Query L) {w : List (Leg L)} {a : Arrival L} → DrivesLegs q w a → Drives q (places w) a
legs_drive_their_places q no_leg = empty_walk
legs_drive_their_places {L} q (one_leg_more {w = w} {a = a} {b = b} {k = k} d l) = subst (λ (v : Walk). Drives q v b) (sym (map_push (λ (x : Leg L). x.place) w (leg_of a k b))) (one_road_more (legs_drive_their_places q d) l)

pub drivable_walk_has_legs : {L : Type 0} (q : Query L) {v : Walk} {a : Arrival L} → Drives q v a → (w : List (Leg L)) × DrivesLegs q w a × (places w ≡ v)
drivable_walk_has_legs q empty_walk = ([], no_leg, refl)
drivable_walk_has_legs {L} q (one_road_more {a = a} {b = b} {k = k} d l) =
    let (w, dw, e) = drivable_walk_has_legs q d in
    (w ++ leg_of a k b ∷ [], one_leg_more dw l, map_push (λ (x : Leg L). x.place) w (leg_of a k b) ∙ ap (λ (u : Walk). u ++ k ∷ []) e)

one_leg_more_places : {L : Type 0} (w : List (Leg L)) (a b : Arrival L) (k : ℕ) → places (w ++ leg_of a k b ∷ []) ≡ places w ++ k ∷ []
one_leg_more_places {L} w a b k = map_push (λ (x : Leg L). x.place) w (leg_of a k b)

legs_of_equal_places_are_equal : {L : Type 0} (q : Query L) {v w : List (Leg L)} {a b : Arrival L} → DrivesLegs q v a → DrivesLegs q w b → places v ≡ places w → v ≡ w
legs_of_equal_places_are_equal q no_leg no_leg e = refl
legs_of_equal_places_are_equal q no_leg (one_leg_more {w = w} {a = a} {b = b} {k = k} d l) e = absurd (omega (arith, ap length (e ∙ one_leg_more_places w a b k), length_push (places w) k))
legs_of_equal_places_are_equal q (one_leg_more {w = v} {a = a} {b = b} {k = k} d l) no_leg e = absurd (omega (arith, ap length (sym e ∙ one_leg_more_places v a b k), length_push (places v) k))
legs_of_equal_places_are_equal {L} q (one_leg_more {w = v} {a = a} {b = b} {k = j} d l) (one_leg_more {w = w} {a = a'} {b = b'} {k = k} d' l') e =
    let (p, r) = same_from_push (places v) (places w) j k (sym (one_leg_more_places v a b j) ∙ e ∙ one_leg_more_places w a' b' k) in
    let same_legs : v ≡ w = legs_of_equal_places_are_equal q d d' p in
    let same_left : a ≡ a' = walk_has_one_arrival q (places w) a a' (subst (λ (u : Walk). Drives q u a) p (legs_drive_their_places q d)) (legs_drive_their_places q d') in
    let same_arrived : b ≡ b' = place_leads_to_one_arrival q a' k b b' (subst (λ (x : Arrival L). Leads q x k b) same_left (subst (λ (i : ℕ). Leads q a i b) r l)) l' in
    cc

pub walk_has_one_list_of_legs : {L : Type 0} (q : Query L) (v w : List (Leg L)) (a b : Arrival L) → DrivesLegs q v a → DrivesLegs q w b → places v ≡ places w → v ≡ w
walk_has_one_list_of_legs q v w a b d d' e = legs_of_equal_places_are_equal q d d' e
