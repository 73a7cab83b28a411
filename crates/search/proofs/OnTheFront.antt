-- The search's tests, offers and order are those of the front.
use Rattle.std.proofs.Common.{◌≡◌, ℕ, ◌<◌, ◌+◌, Bool, true, false, cond, eqb, leb, ◌⊎◌, List, [], ◌∷◌, ◌++◌, map, length, Some, None, Ok, Err, Option, refl, sym, ap, ◌∙◌, subst, inl, inr, true≢false, arith}
use lib.ListN.{length-map}
use Rattle.std.specs.Option.{option_map}
use Rattle.std.specs.Result.{result_ok}
use Rattle.std.specs.List.{ContainsAt as Has}
use Rattle.std.proofs.ByRecursion.{all-has}
use Rattle.std.proofs.lemmas.List.{get_or-map, get_or_default}
use Rattle.std.proofs.lemmas.List.Folds.{Any-from_list_any, list_any_at}
use Rattle.std.proofs.lemmas.Bool.Decides.{nat_tests}
use Rattle.std.proofs.lemmas.Bool.{leb-true, le-leb, eqb-true, eq-eqb, and_parts, and_from}
use Rattle.maps.specs.declared.road.Road.{Road}
use Rattle.maps.specs.Rows.{Rows, at}
use Rattle.loads.specs.Meaning.{Meaning}
use Rattle.loads.specs.Picked.{from_mapped}
use Rattle.front.specs.declared.arrival.Arrival.{Arrival}
use Rattle.front.specs.declared.label.Label.{Label}
use Rattle.front.specs.Walks.{Query, Valid, Leads}
use Rattle.front.specs.OneRoad.{arrival_with_load, arrival_over_road, arrival_by_place}
use Rattle.front.specs.Front.{Serves, Before, sooner, higher_rank, lower_junction}
use Rattle.front.specs.Labels.{Served}
use Rattle.front.specs.Invariant.{IsNext, Spreads, Thins}
use Rattle.front.proofs.OneRoad.{arrival_by_place_leads, leads_to_arrival_by_place, leading_place_is_below_twelve}
use Rattle.walks.specs.declared.trial.Stranding.TheVariants.{PastDeadline}
use Rattle.walks.specs.Trial.{arrival_over, step_over, step_by_place}
use Rattle.queue.specs.Heaps.{Least}
use Rattle.promises.specs.declared.candidate.Candidate.{Candidate}
use Rattle.promises.specs.Order.{leaves_before}
use Rattle.search.specs.Steps.{label_serves, served_by, candidate, offer, GrownBy, Dropped}
use Rattle.promises.specs.StandsFor.{labels_of}
use Rattle.search.proofs.Queueing.{has_here, has_there, has_cons, has_none}

pub has_map : {X Y : Type 0} (f : X → Y) (xs : List X) (x : X) → Has xs x → Has (map f xs) (f x)
has_map f xs x (k, h, e) = (k, omega (arith, h, length-map xs f), λ d. get_or-map f xs k x d h ∙ ap f (e x))

pub map_has : {X Y : Type 0} (f : X → Y) (xs : List X) (y : Y) → Has (map f xs) y → (x : X) × Has xs x × (f x ≡ y)
map_has f [] y h = absurd (has_none y h)
map_has {X} {Y} f (x ∷ xs) y h = go (map_has f xs y) (has_cons (f x) y (map f xs) h)
  where
    go : (Has (map f xs) y → (z : X) × Has xs z × (f z ≡ y)) → (f x ≡ y) ⊎ Has (map f xs) y → (z : X) × Has (x ∷ xs) z × (f z ≡ y)
    go rec (inl e) = (x, has_here x xs, e)
    go rec (inr g) = let (z, hz, ez) = rec g in (z, has_there x z xs hz, ez)

-- the arrival of a step, where it has one, is that by the place
module _ {L : Type 0} (m : Meaning L) (D : ℕ) (a : Arrival L) where
  in_time : (e : Road) (x : Arrival L) (b : Bool) → result_ok (cond b (Ok x) (Err (PastDeadline e))) ≡ cond b (Some x) None
  in_time e x true = refl
  in_time e x false = refl

  over : (e : Road) (o : Option L) → result_ok (arrival_over D a e o) ≡ arrival_with_load D a e o
  over e None = refl
  over e (Some f) = in_time e _ (leb (a.time + e.seconds) D)

  over_what_is_there : (o : Option Road) → result_ok (step_over m D a o) ≡ arrival_over_road m D a o
  over_what_is_there None = refl
  over_what_is_there (Some e) = over e (m.drive a.load e)

  pub step_arrives : (rows : Rows) (k : ℕ) → result_ok (step_by_place rows m D a k) ≡ arrival_by_place rows m D a k
  step_arrives rows k = over_what_is_there (at rows a.junction k)

module _ {L : Type 0} (q : Query L) (a : Arrival L) (n k : ℕ) where
  pub offer_leads : (c : Candidate L) → offer q.rows q.kind q.deadline a n k ≡ Some c → (b : Arrival L) × Leads q a k b × (candidate q.kind n k b ≡ c)
  offer_leads c e = let (b, p, r) = from_mapped (candidate q.kind n k) (arrival_by_place q.rows q.kind q.deadline a k) c e in (b, arrival_by_place_leads q a k b p, r)

  pub leads_offer : (b : Arrival L) → Leads q a k b → offer q.rows q.kind q.deadline a n k ≡ Some (candidate q.kind n k b)
  leads_offer b l = ap (option_map (candidate q.kind n k)) (leads_to_arrival_by_place q a k b l)

module _ {L : Type 0} (m : Meaning L) where
  covers_serves : (a : Arrival L) (x : Label L) → label_serves m a x ≡ true → Serves m x.arrival a
  covers_serves a x e =
      let p = and_parts (eqb x.arrival.junction a.junction) _ e in
      let r = and_parts (leb x.arrival.time a.time) _ p.1 in
      record { same_junction = eqb-true _ _ p.0; no_later = leb-true _ _ r.0; as_good = r.1 }

  serves_covers : (a : Arrival L) (x : Label L) → Serves m x.arrival a → label_serves m a x ≡ true
  serves_covers a x s = and_from _ _ (eq-eqb _ _ s.same_junction) (and_from _ _ (le-leb _ _ s.no_later) s.as_good)

  pub covered_served : (xs : List (Label L)) (a : Arrival L) → served_by m xs a ≡ true → Served m xs a
  covered_served xs a e = let (k, x, h, i, p) = Any-from_list_any (label_serves m a) xs e in (x, (k, h, λ d. get_or_default xs k d x h ∙ i), covers_serves a x p)

  pub unserved : (xs : List (Label L)) (a : Arrival L) → served_by m xs a ≡ false → Served m xs a → ⊥
  unserved xs a e (x, (k, h, p), s) = true≢false (sym (list_any_at (label_serves m a) xs k x h (ap (label_serves m a) (p x) ∙ serves_covers a x s)) ∙ e)

  pub dropped_thins : (q : Query L) → q.kind ≡ m → (listed : List (Label L)) (cs cs' : List (Candidate L)) → Dropped m listed cs cs' → Thins q listed (labels_of cs) (labels_of cs')
  dropped_thins q em listed cs cs' p = record { each_waited = only'; what_waited_is_served_or_waits = kept' }
    where
      only' : (d : Label L) → Has (labels_of cs') d → Has (labels_of cs) d
      only' d h = let (c, hc, e) = map_has (λ (c : Candidate L). c.label) cs' d h in subst (λ (x : Label L). Has (labels_of cs) x) e (has_map (λ (c : Candidate L). c.label) cs c (p.each_waited c hc))

      by : (c : Candidate L) (d : Label L) → c.label ≡ d → (served_by m listed c.label.arrival ≡ true) ⊎ Has cs' c → Served q.kind listed d.arrival ⊎ Has (labels_of cs') d
      by c d e (inl v) = inl (subst (λ (x : Label L). Served q.kind listed x.arrival) e (subst (λ (k : Meaning L). Served k listed c.label.arrival) (sym em) (covered_served listed c.label.arrival v)))
      by c d e (inr h) = inr (subst (λ (x : Label L). Has (labels_of cs') x) e (has_map (λ (c : Candidate L). c.label) cs' c h))

      kept' : (d : Label L) → Has (labels_of cs) d → Served q.kind listed d.arrival ⊎ Has (labels_of cs') d
      kept' d h = let (c, hc, e) = map_has (λ (c : Candidate L). c.label) cs d h in by c d e (p.what_waited_is_served_or_waits c hc)

  -- what is before in the front leaves the queue first
  pub before_leaves : (d c : Candidate L) → d.rank ≡ m.rank d.label.arrival.load → c.rank ≡ m.rank c.label.arrival.load → Before m d.label.arrival c.label.arrival → leaves_before d c ≡ true
  before_leaves d c rd rc (sooner p) = grind (arith, nat_tests)
  before_leaves d c rd rc (higher_rank p r) = grind (arith, nat_tests)
  before_leaves d c rd rc (lower_junction p r s) = grind (arith, nat_tests)

module _ {L : Type 0} (q : Query L) (listed : List (Label L)) where
  pub next : (cs : List (Candidate L)) (c : Candidate L) → ((d : Candidate L) → Has (c ∷ cs) d → d.rank ≡ q.kind.rank d.label.arrival.load) → Least leaves_before c (c ∷ cs) → served_by q.kind listed c.label.arrival ≡ false → IsNext q listed (labels_of (c ∷ cs)) c.label
  next cs c ranked least e = record { waits = has_here c.label (labels_of cs); no_candidate_is_before_it = least'; no_label_serves_it = unserved q.kind listed c.label.arrival e }
    where
      by : (d : Candidate L) (x : Label L) → Has (c ∷ cs) d → d.label ≡ x → Before q.kind x.arrival c.label.arrival → ⊥
      by d x h p b = true≢false (sym (before_leaves q.kind d c (ranked d h) (ranked c (has_here c cs)) (subst (λ (y : Label L). Before q.kind y.arrival c.label.arrival) (sym p) b)) ∙ all-has (λ (y : Candidate L). leaves_before y c ≡ false) (c ∷ cs) d least h)

      least' : (x : Label L) → Has (labels_of (c ∷ cs)) x → Before q.kind x.arrival c.label.arrival → ⊥
      least' x h b = let (d, hd, p) = map_has (λ (c : Candidate L). c.label) (c ∷ cs) x h in by d x hd p b

  -- the offers of label x, number n, come to those of cs₀ that are kept
  pub spreads : Valid q → (n : ℕ) → n ≡ length listed → (cs₀ cs₁ cs₂ : List (Candidate L)) (x : Label L) → ((d : Candidate L) → Has cs₁ d → Has cs₀ d) → ((d : Candidate L) → Has cs₀ d → Served q.kind (listed ++ x ∷ []) d.label.arrival ⊎ Has cs₁ d)
      → GrownBy (offer q.rows q.kind q.deadline x.arrival n) 12 cs₁ cs₂ → Spreads q listed (labels_of cs₀) x (labels_of cs₂)
  spreads fair n en cs₀ cs₁ cs₂ x only₀ kept₀ g = record { each_waited_or_comes_from_it = only'; what_waited_is_served_or_waits = kept'; each_road_from_it_is_served_or_waits = roads' }
    where
      one : (c : Candidate L) (d : Label L) → c.label ≡ d → Has cs₁ c ⊎ ((k : ℕ) × (k < 12) × (offer q.rows q.kind q.deadline x.arrival n k ≡ Some c)) → Has (labels_of cs₀) d ⊎ ((d.before ≡ length listed) × Leads q x.arrival d.place d.arrival)
      one c d e (inl h) = inl (subst (λ (y : Label L). Has (labels_of cs₀) y) e (has_map (λ (c : Candidate L). c.label) cs₀ c (only₀ c h)))
      one c d e (inr (k, lt, o)) =
          let (b, l, p) = offer_leads q x.arrival n k c o in
          let same : (candidate q.kind n k b).label ≡ d = ap (λ (c : Candidate L). c.label) p ∙ e in
          inr (subst (λ (y : Label L). (y.before ≡ length listed) × Leads q x.arrival y.place y.arrival) same (en, l))

      only' : (d : Label L) → Has (labels_of cs₂) d → Has (labels_of cs₀) d ⊎ ((d.before ≡ length listed) × Leads q x.arrival d.place d.arrival)
      only' d h = let (c, hc, e) = map_has (λ (c : Candidate L). c.label) cs₂ d h in one c d e (g.each_waited_or_was_offered c hc)

      on : (c : Candidate L) (d : Label L) → c.label ≡ d → Served q.kind (listed ++ x ∷ []) c.label.arrival ⊎ Has cs₁ c → Served q.kind (listed ++ x ∷ []) d.arrival ⊎ Has (labels_of cs₂) d
      on c d e (inl v) = inl (subst (λ (y : Label L). Served q.kind (listed ++ x ∷ []) y.arrival) e v)
      on c d e (inr h) = inr (subst (λ (y : Label L). Has (labels_of cs₂) y) e (has_map (λ (c : Candidate L). c.label) cs₂ c (g.what_waited_waits c h)))

      kept' : (d : Label L) → Has (labels_of cs₀) d → Served q.kind (listed ++ x ∷ []) d.arrival ⊎ Has (labels_of cs₂) d
      kept' d h = let (c, hc, e) = map_has (λ (c : Candidate L). c.label) cs₀ d h in on c d e (kept₀ c hc)

      roads' : (k : ℕ) (b : Arrival L) → Leads q x.arrival k b → Served q.kind (listed ++ x ∷ []) b ⊎ Has (labels_of cs₂) (record { arrival = b; before = length listed; place = k })
      roads' k b l =
          let lt = leading_place_is_below_twelve q x.arrival fair k b l in
          inr (subst (λ (j : ℕ). Has (labels_of cs₂) (record { arrival = b; before = j; place = k })) en (has_map (λ (c : Candidate L). c.label) cs₂ (candidate q.kind n k b) (g.what_was_offered_waits k (candidate q.kind n k b) lt (leads_offer q x.arrival n k b l))))
