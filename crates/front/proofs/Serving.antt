-- Serving is an order too, and what serves an arrival is before it or the same.
use Rattle.std.proofs.Common.{◌≡◌, ◌<◌, ◌≤◌, true, ◌⊎◌, sym, refl, ◌∙◌, inl, inr, arith}
use Rattle.std.proofs.lemmas.Bool.{cases_order}
use Rattle.loads.specs.Meaning.{Meaning}
use Rattle.loads.specs.Laws.{Laws}
use Rattle.front.specs.Walks.{Arrival}
use Rattle.front.specs.Front.{Serves, Before, sooner, higher_rank}
use Rattle.front.proofs.Loads.{better_is_a_load, worse_is_a_load}
use Rattle.front.proofs.Order.{equal_parts_equal_arrivals, not_before_itself, before_is_transitive}

module _ {L : Type 0} (m : Meaning L) (laws : Laws m) where
  pub serves_itself : (a : Arrival L) → m.is_load a.load ≡ true → Serves m a a
  serves_itself a h = record { same_junction = refl; no_later = omega arith; as_good = laws.reflexive a.load h }

  pub serves_is_transitive : (a b c : Arrival L) → Serves m a b → Serves m b c → Serves m a c
  serves_is_transitive a b c s t = record { same_junction = s.same_junction ∙ t.same_junction; no_later = omega arith; as_good = laws.transitive a.load b.load c.load s.as_good t.as_good }

  pub server_is_before_or_the_same : (a b : Arrival L) → Serves m a b → Before m a b ⊎ (a ≡ b)
  server_is_before_or_the_same a b s = go (cases_order a.time b.time) (cases_order (m.rank a.load) (m.rank b.load))
    where
      ranks_no_lower : m.rank b.load ≤ m.rank a.load
      ranks_no_lower = laws.better_ranks_no_lower a.load b.load s.as_good

      equal_loads : m.rank a.load ≡ m.rank b.load → a.load ≡ b.load
      equal_loads r = laws.equal_ranks_equal_loads a.load b.load (better_is_a_load m laws a.load b.load s.as_good) (worse_is_a_load m laws a.load b.load s.as_good) r

      go : (a.time ≡ b.time) ⊎ ((a.time < b.time) ⊎ (b.time < a.time)) → (m.rank a.load ≡ m.rank b.load) ⊎ ((m.rank a.load < m.rank b.load) ⊎ (m.rank b.load < m.rank a.load)) → Before m a b ⊎ (a ≡ b)
      go (inl p) (inl r) = inr (equal_parts_equal_arrivals a b s.same_junction p (equal_loads r))
      go (inl p) (inr (inl r)) = absurd (omega (arith, ranks_no_lower))
      go (inl p) (inr (inr r)) = inl (higher_rank p r)
      go (inr (inl p)) r = inl (sooner p)
      go (inr (inr p)) r = absurd (omega arith)

  pub serving_each_other_is_the_same : (a b : Arrival L) → Serves m a b → Serves m b a → a ≡ b
  serving_each_other_is_the_same a b s t = go (server_is_before_or_the_same a b s) (server_is_before_or_the_same b a t)
    where
      go : Before m a b ⊎ (a ≡ b) → Before m b a ⊎ (b ≡ a) → a ≡ b
      go (inl p) (inl r) = absurd (not_before_itself m a (before_is_transitive m a b a p r))
      go (inl p) (inr e) = sym e
      go (inr e) r = e
