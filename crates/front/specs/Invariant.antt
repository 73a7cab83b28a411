-- What holds of listed labels and waiting candidates between two steps of a search, and what the steps do.
-- Nothing on this page has to be believed: it only carries the proofs from one step to the next.
use Rattle.std.specs.Prelude.{◌≡◌, ℕ, ◌<◌, ◌⊎◌, List, [], ◌∷◌, ◌++◌, length, get_or, slice_index_or}
use Rattle.std.specs.List.{ContainsAt as Has}
use Rattle.front.specs.Walks.{Query, Arrival, Leads, departure}
use Rattle.front.specs.Front.{Before, FrontBegins}
use Rattle.front.specs.Labels.{Label, arrivals, Served, ComesFrom}

-- what holds between two steps
pub record Invariant {L : Type 0} (q : Query L) (listed waiting : List (Label L)) : Type 0 where
  pub listed_begin_the_front : FrontBegins q (arrivals listed)
  pub some_label_is_listed : 0 < length listed
  pub first_label_is_the_departure : (d : Label L) → (get_or listed 0 d).arrival ≡ departure q
  pub each_later_label_comes_from_an_earlier_one : (i : ℕ) (d : Label L) → 0 < i → i < length listed → ComesFrom q listed i (slice_index_or listed i d)
  pub each_candidate_comes_from_a_label : (c : Label L) → Has waiting c → ComesFrom q listed (length listed) c
  pub no_candidate_is_before_a_label : (c x : Label L) → Has waiting c → Has listed x → Before q.kind c.arrival x.arrival → ⊥
  pub each_road_from_a_label_is_served_or_waits : (i k : ℕ) (d : Label L) (b : Arrival L) → i < length listed → Leads q (get_or listed i d).arrival k b → Served q.kind listed b ⊎ Has waiting (record { arrival = b; before = i; place = k })

-- c is the next to list
pub record IsNext {L : Type 0} (q : Query L) (listed waiting : List (Label L)) (c : Label L) : Type 0 where
  pub waits : Has waiting c
  pub no_candidate_is_before_it : (d : Label L) → Has waiting d → Before q.kind d.arrival c.arrival → ⊥
  pub no_label_serves_it : Served q.kind listed c.arrival → ⊥

-- waiting' may wait once x is listed after the labels before it: of what waited and what x's roads give, only what a listed label serves may be missing
pub record Spreads {L : Type 0} (q : Query L) (listed waiting : List (Label L)) (x : Label L) (waiting' : List (Label L)) : Type 0 where
  pub each_waited_or_comes_from_it : (d : Label L) → Has waiting' d → Has waiting d ⊎ ((d.before ≡ length listed) × Leads q x.arrival d.place d.arrival)
  pub what_waited_is_served_or_waits : (d : Label L) → Has waiting d → Served q.kind (listed ++ x ∷ []) d.arrival ⊎ Has waiting' d
  pub each_road_from_it_is_served_or_waits : (k : ℕ) (b : Arrival L) → Leads q x.arrival k b → Served q.kind (listed ++ x ∷ []) b ⊎ Has waiting' (record { arrival = b; before = length listed; place = k })

-- of what waited, only what a listed label serves may be missing from waiting'
pub record Thins {L : Type 0} (q : Query L) (listed waiting waiting' : List (Label L)) : Type 0 where
  pub each_waited : (d : Label L) → Has waiting' d → Has waiting d
  pub what_waited_is_served_or_waits : (d : Label L) → Has waiting d → Served q.kind listed d.arrival ⊎ Has waiting' d
