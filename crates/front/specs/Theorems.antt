-- The theorems: of walks, of the front, and of a search that keeps the invariant.
use Rattle.std.specs.Prelude.{◌≡◌, ℕ, ◌<◌, ◌≤◌, ◌↔◌, List, [], ◌∷◌, ◌++◌, length, get_or, Some, ◌≢◌, slice_index_or}
use Rattle.std.specs.List.{ContainsAt as Has}
use Rattle.front.specs.Walks.{Query, Valid, Arrival, Leads, Drives, Walk, Reached, departure}
use Rattle.front.specs.OneRoad.{arrival_by_place}
use Rattle.front.specs.Front.{Before, Unbeaten, FrontBegins, IsFront}
use Rattle.front.specs.Legs.{Leg, Stored, DrivesLegs, places}
use Rattle.front.specs.Labels.{Label, arrivals, Served, Traces, TracedWalk, WalkThroughLabels}
use Rattle.front.specs.Invariant.{Invariant, IsNext, Spreads, Thins}

-- the computed form of one road agrees with the relation, and a walk has one arrival and one list of legs
pub record WalkTheorems {L : Type 0} (q : Query L) : Type 0 where
  pub place_leads_where_its_road_arrives : (a b : Arrival L) (k : ℕ) → Leads q a k b ↔ (arrival_by_place q.rows q.kind q.deadline a k ≡ Some b)
  pub leading_place_is_below_twelve : (a b : Arrival L) (k : ℕ) → Leads q a k b → k < 12
  pub walk_has_one_arrival : (w : Walk) (a b : Arrival L) → Drives q w a → Drives q w b → a ≡ b
  pub legs_drive_their_places : (w : List (Leg L)) (a : Arrival L) → DrivesLegs q w a → Drives q (places w) a
  pub drivable_walk_has_legs : (v : Walk) (a : Arrival L) → Drives q v a → (w : List (Leg L)) × DrivesLegs q w a × (places w ≡ v)
  pub walk_has_one_list_of_legs : (v w : List (Leg L)) (a b : Arrival L) → DrivesLegs q v a → DrivesLegs q w b → places v ≡ places w → v ≡ w

-- the front has one order, so a beginning of it is known by its length alone
pub record FrontTheorems {L : Type 0} (q : Query L) : Type 0 where
  pub departure_begins_the_front : FrontBegins q (departure q ∷ [])
  pub beginnings_agree : (xs ys : List (Arrival L)) → FrontBegins q xs → FrontBegins q ys → (i : ℕ) (d : Arrival L) → i < length xs → i < length ys → slice_index_or xs i d ≡ slice_index_or ys i d
  pub one_beginning_of_each_length : (xs ys : List (Arrival L)) → FrontBegins q xs → FrontBegins q ys → length xs ≡ length ys → xs ≡ ys
  pub no_beginning_is_longer_than_the_front : (xs ys : List (Arrival L)) → FrontBegins q xs → IsFront q ys → length xs ≤ length ys
  pub one_front : (xs ys : List (Arrival L)) → IsFront q xs → IsFront q ys → xs ≡ ys

-- listing the least candidate again and again lists the front, and labels trace their walks
pub record SearchTheorems {L : Type 0} (q : Query L) : Type 0 where
  -- the empty walk is listed first, and its roads wait
  pub begins_with_the_empty_walk : (x : Label L) (waiting : List (Label L)) → x.arrival ≡ departure q → Spreads q [] [] x waiting → Invariant q (x ∷ []) waiting
  -- the least candidate that no label serves is the front's next arrival, and is not listed yet
  pub next_candidate_is_the_next_of_the_front : (listed waiting : List (Label L)) (c : Label L) → Invariant q listed waiting → IsNext q listed waiting c → FrontBegins q (arrivals (listed ++ c ∷ []))
  pub next_candidate_is_unlisted : (listed waiting : List (Label L)) (c : Label L) → Invariant q listed waiting → IsNext q listed waiting c → Has (arrivals listed) c.arrival → ⊥
  -- once it is listed and its roads wait, the search goes on; and so it does when candidates that a label serves are dropped
  pub listing_keeps_the_invariant : (listed waiting waiting' : List (Label L)) (c : Label L) → Invariant q listed waiting → IsNext q listed waiting c → Spreads q listed waiting c waiting' → Invariant q (listed ++ c ∷ []) waiting'
  pub dropping_served_candidates_keeps_the_invariant : (listed waiting waiting' : List (Label L)) → Invariant q listed waiting → Thins q listed waiting waiting' → Invariant q listed waiting'
  -- when nothing waits, the whole front is listed, and the labels serve every arrival that is reached
  pub nothing_waits_so_the_front_is_listed : (listed : List (Label L)) → Invariant q listed [] → IsFront q (arrivals listed)
  pub nothing_waits_so_labels_serve_all_reached : (listed : List (Label L)) → Invariant q listed [] → (a : Arrival L) → Reached q a → Served q.kind listed a
  pub junction_without_label_is_not_reached : (listed : List (Label L)) → Invariant q listed [] → (v : ℕ) → ((y : Label L) → Has listed y → y.arrival.junction ≢ v) → (a : Arrival L) → Reached q a → a.junction ≢ v
  -- also while candidates wait: what is reached before a label, labels serve, so the first label at a junction is the fastest there
  pub labels_serve_what_is_reached_before_one : (listed waiting : List (Label L)) → Invariant q listed waiting → (x : Label L) → Has listed x → (a : Arrival L) → Reached q a → Before q.kind a x.arrival → Served q.kind listed a
  pub first_label_at_a_junction_is_the_fastest : (listed waiting : List (Label L)) → Invariant q listed waiting → (x : Label L) → Has listed x
      → ((y : Label L) → Has listed y → y.arrival.junction ≡ x.arrival.junction → Before q.kind y.arrival x.arrival → ⊥)
      → (a : Arrival L) → Reached q a → a.junction ≡ x.arrival.junction → x.arrival.time ≤ a.time
  -- every unbeaten arrival from which one road gives the next candidate's arrival is listed, and every road from a label that gives it waits
  pub unbeaten_one_road_before_the_next_is_listed : (listed waiting : List (Label L)) (c : Label L) → Invariant q listed waiting → IsNext q listed waiting c → (a : Arrival L) (k : ℕ) → Unbeaten q a → Leads q a k c.arrival → Has (arrivals listed) a
  pub each_road_to_the_next_waits : (listed waiting : List (Label L)) (c : Label L) → Invariant q listed waiting → IsNext q listed waiting c → (i k : ℕ) (d : Label L) → i < length listed → Leads q (get_or listed i d).arrival k c.arrival → Has waiting (record { arrival = c.arrival; before = i; place = k })
  -- the links of a listed label trace one walk; it drives to the label, through listed labels alone
  pub links_trace_one_walk : (ls : List (Label L)) (i : ℕ) (v w : List (Leg L)) → Traces ls i v → Traces ls i w → v ≡ w
  pub links_of_a_listed_label_trace_a_walk_to_it : (listed waiting : List (Label L)) → Invariant q listed waiting → (i : ℕ) (x : Label L) → Stored listed i x → (w : List (Leg L)) × Traces listed i w × TracedWalk q listed i x w
  pub listed_label_has_a_walk_through_labels : (listed waiting : List (Label L)) → Invariant q listed waiting → (x : Label L) → Has listed x → (w : Walk) × WalkThroughLabels q listed x w

-- they hold of every valid query with loads of type L
abbrev pub Theorems : Type 0 → Type 0
Theorems L = (q : Query L) → Valid q → WalkTheorems q × FrontTheorems q × SearchTheorems q
