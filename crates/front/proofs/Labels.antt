-- Labels and their arrivals, and what more labels keep.
use Rattle.std.proofs.Common.{◌≡◌, ℕ, zero, suc, ◌<◌, ◌≤◌, List, [], ◌∷◌, ◌++◌, length, get_or, sym, refl, ap, ◌∙◌, arith}
use lib.ListN.{length-map}
use Rattle.std.specs.List.{ContainsAt as Has}
use Rattle.std.proofs.ByRecursion.{has_get_or, has_append_left}
use Rattle.std.proofs.lemmas.List.{get_or_append_left, get_or-map}
use Rattle.loads.specs.Meaning.{Meaning}
use Rattle.loads.specs.Laws.{Laws}
use Rattle.front.specs.Walks.{Query, Arrival}
use Rattle.front.specs.Front.{Serves}
use Rattle.front.specs.Legs.{Stored}
use Rattle.front.specs.Labels.{Label, arrivals, Served, ComesFrom}
use Rattle.front.proofs.Serving.{serves_is_transitive}

pub label_gives_its_arrival : {L : Type 0} (xs : List (Label L)) (x : Label L) → Has xs x → Has (arrivals xs) x.arrival
label_gives_its_arrival {L} xs x (k, h, e) = (k, rw (length-map xs (λ (x : Label L). x.arrival)) h, λ d. get_or-map (λ x. x.arrival) xs k x d h ∙ ap (λ (y : Label L). y.arrival) (e x))

pub arrival_has_a_label : {L : Type 0} (xs : List (Label L)) (a : Arrival L) → Has (arrivals xs) a → (x : Label L) × Has xs x × (x.arrival ≡ a)
arrival_has_a_label {L} xs a (k, h, e) = (get_or xs k d, has_get_or xs k d l, sym (get_or-map (λ (x : Label L). x.arrival) xs k d a l) ∙ e a)
  where
    d : Label L
    d = record { arrival = a; before = 0; place = 0 }

    l : k < length xs
    l = rw (length-map xs (λ (x : Label L). x.arrival)) at h

pub stored_get_or : {X : Type 0} (xs : List X) (i : ℕ) (d : X) → i < length xs → Stored xs i (get_or xs i d)
stored_get_or [] i d h = absurd (omega (arith, h))
stored_get_or (x ∷ xs) zero d h = (h, λ e. refl)
stored_get_or (x ∷ xs) (suc i) d h = (h, λ e. (stored_get_or xs i d (omega (arith, h))).1 e)

pub stored_is_one : {X : Type 0} (xs : List X) (i : ℕ) (x y : X) → Stored xs i x → Stored xs i y → x ≡ y
stored_is_one xs i x y s t = sym (s.1 x) ∙ t.1 x

pub none_in_the_empty_list : {X : Type 0} (x : X) → Has [] x → ⊥
none_in_the_empty_list x (k, h, e) = omega arith

pub server_of_server_serves : {L : Type 0} (m : Meaning L) → Laws m → (xs : List (Label L)) (a b : Arrival L) → Served m xs a → Serves m a b → Served m xs b
server_of_server_serves m laws xs a b (x, h, s) t = (x, h, serves_is_transitive m laws x.arrival a b s t)

pub more_labels_serve_as_well : {L : Type 0} (m : Meaning L) (xs ys : List (Label L)) (a : Arrival L) → Served m xs a → Served m (xs ++ ys) a
more_labels_serve_as_well m xs ys a (x, h, s) = (x, has_append_left xs ys x h, s)

pub comes_from_more_labels : {L : Type 0} (q : Query L) (xs ys : List (Label L)) (n k : ℕ) (x : Label L) → n ≤ length xs → n ≤ k → ComesFrom q xs n x → ComesFrom q (xs ++ ys) k x
comes_from_more_labels q xs ys n k x l m p = record { earlier = omega (arith, p.earlier); leads = λ d. rw (get_or_append_left xs ys d x.before (omega (arith, p.earlier))) (p.leads d) }
