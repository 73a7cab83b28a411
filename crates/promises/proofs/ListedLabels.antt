-- What is known of the listed labels of a search that stands for a query.
use Rattle.std.proofs.Common.{◌≡◌, ℕ, ◌<◌, ◌≤◌, List, get_or, take, sym, ap, ◌∙◌, subst, subst₂, ⊎_elim, arith}
use lib.ListN.{length-map}
use Rattle.std.specs.List.{ContainsAt as Has}
use Rattle.std.proofs.lemmas.List.{get_or-take, get_or-map, length-take}
use Rattle.std.proofs.lemmas.Bool.{cases_lt}
use Rattle.front.specs.declared.arrival.Arrival.{Arrival}
use Rattle.front.specs.declared.label.Label.{Label}
use Rattle.front.specs.declared.leg.Leg.{Leg}
use Rattle.front.specs.Walks.{Query, departure}
use Rattle.front.specs.Front.{Unbeaten, Before}
use Rattle.front.specs.Legs.{Stored}
use Rattle.front.specs.Labels.{TracedWalk, Traces}
use Rattle.front.proofs.Order.{not_before_itself, before_is_transitive}
use Rattle.front.proofs.Labels.{label_gives_its_arrival}
use Rattle.front.proofs.ListedLabels.{first_label_at_a_junction_is_the_fastest}
use Rattle.front.proofs.Tracing.{links_of_a_listed_label_trace_a_walk_to_it}
use Rattle.promises.specs.declared.candidate.Candidate.{Candidate}
use Rattle.promises.specs.Numbers.{Numbers}
use Rattle.promises.specs.StandsFor.{StandsFor, labels_of}
use Rattle.promises.specs.Law.{NoneFaster}
use Rattle.promises.proofs.Records.{stored_take, take_stored, below_take, traces_take}

module _ {L : Type 0} (q : Query L) (s : Numbers) (ls : List (Label L)) (ws : List (Candidate L)) (st : StandsFor q s ls ws) where
  pub listed_is_unbeaten : (i : ℕ) (x : Label L) → i < s.listed → Stored ls i x → Unbeaten q x.arrival
  listed_is_unbeaten i x lt p = let r = stored_take ls s.listed i x lt st.listed_within_the_table p in st.invariant.listed_begin_the_front.unbeaten x.arrival (label_gives_its_arrival (take s.listed ls) x (i, r.0, r.1))

  pub label_0_is_the_departure : (x : Label L) → Stored ls 0 x → x.arrival ≡ departure q
  label_0_is_the_departure x p =
      let pos : 0 < s.listed = omega (arith, st.invariant.some_label_is_listed, length-take s.listed ls) in
      ap (λ (y : Label L). y.arrival) (sym (p.1 x) ∙ sym (get_or-take s.listed ls 0 x pos)) ∙ st.invariant.first_label_is_the_departure x

  pub listed_in_order : (i j : ℕ) (x y : Label L) → i < j → j < s.listed → Stored ls i x → Stored ls j y → Before q.kind x.arrival y.arrival
  listed_in_order i j x y lt hi p r =
      let f = λ (z : Label L). z.arrival in
      let a = stored_take ls s.listed i x (omega (arith, lt, hi)) st.listed_within_the_table p in
      let b = stored_take ls s.listed j y hi st.listed_within_the_table r in
      let o = st.invariant.listed_begin_the_front.ordered i j x.arrival lt (omega (arith, length-map (take s.listed ls) f, b.0)) in
      subst₂ (λ (u v : Arrival L). Before q.kind u v) (get_or-map f (take s.listed ls) i x x.arrival a.0 ∙ ap f (a.1 x)) (get_or-map f (take s.listed ls) j x x.arrival b.0 ∙ ap f (b.1 x)) o

  pub first_at_the_goal_is_the_fastest : (n : ℕ) (x : Label L) → n < s.listed → Stored ls n x → x.arrival.junction ≡ q.goal → ((i : ℕ) (y : Label L) → i < s.listed → Stored ls i y → y.arrival.junction ≡ q.goal → n ≤ i) → NoneFaster q x.arrival.time
  first_at_the_goal_is_the_fastest n x lt p goal least a r there = first_label_at_a_junction_is_the_fastest q st.valid (take s.listed ls) (labels_of (take s.waiting ws)) st.invariant x (n, (stored_take ls s.listed n x lt st.listed_within_the_table p).0, (stored_take ls s.listed n x lt st.listed_within_the_table p).1) none a r (there ∙ sym goal)
    where
      none : (y : Label L) → Has (take s.listed ls) y → y.arrival.junction ≡ x.arrival.junction → Before q.kind y.arrival x.arrival → ⊥
      none y (i, h, e) j b =
          let sy : Stored ls i y = take_stored ls s.listed i y (h, e) in
          let hi : i < s.listed = below_take ls s.listed i y (h, e) in
          let le : n ≤ i = least i y hi sy (j ∙ goal) in
          ⊎_elim
          (λ l. not_before_itself q.kind x.arrival (before_is_transitive q.kind x.arrival y.arrival x.arrival (listed_in_order n i x y l hi p sy) b))
          (λ l. let z : i ≡ n = omega (arith, l, le) in let same : y ≡ x = sym (sy.1 x) ∙ (ap (λ (k : ℕ). get_or ls k x) z ∙ p.1 x) in not_before_itself q.kind x.arrival (subst (λ (w : Label L). Before q.kind w.arrival x.arrival) same b))
          (cases_lt n i)

  pub listed_has_a_traced_walk : (i : ℕ) (x : Label L) → i < s.listed → Stored ls i x → (w : List (Leg L)) × Traces ls i w × TracedWalk q ls i x w
  listed_has_a_traced_walk i x lt p = let (w, t, r) = links_of_a_listed_label_trace_a_walk_to_it q (take s.listed ls) (labels_of (take s.waiting ws)) st.invariant i x (stored_take ls s.listed i x lt st.listed_within_the_table p) in (w, traces_take ls s.listed i w t, record { drives = r.drives; beginnings = λ k h. let (j, y, le, sy, ry) = r.beginnings k h in (j, y, le, take_stored ls s.listed j y sy, ry) })
