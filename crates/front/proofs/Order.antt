-- The order of arrivals is strict, and of two arrivals with loads one is before the other or they are the same.
use Rattle.std.proofs.Common.{◌≡◌, ◌<◌, ◌≤◌, true, ◌⊎◌, sym, inl, inr, arith}
use Rattle.std.proofs.lemmas.Bool.{cases_order}
use Rattle.loads.specs.Meaning.{Meaning}
use Rattle.loads.specs.Laws.{Laws}
use Rattle.front.specs.Walks.{Arrival}
use Rattle.front.specs.Front.{Before, sooner, higher_rank, lower_junction}

pub equal_parts_equal_arrivals : {L : Type 0} (a b : Arrival L) → a.junction ≡ b.junction → a.time ≡ b.time → a.load ≡ b.load → a ≡ b
equal_parts_equal_arrivals a b p r s = λ i. record { junction = p i; time = r i; load = s i }

module _ {L : Type 0} (m : Meaning L) where
  pub not_before_itself : (a : Arrival L) → Before m a a → ⊥
  not_before_itself a (sooner p) = omega arith
  not_before_itself a (higher_rank p r) = omega arith
  not_before_itself a (lower_junction p r s) = omega arith

  pub before_is_transitive : (a b c : Arrival L) → Before m a b → Before m b c → Before m a c
  before_is_transitive a b c (sooner p) (sooner p') = sooner (omega arith)
  before_is_transitive a b c (sooner p) (higher_rank p' r') = sooner (omega arith)
  before_is_transitive a b c (sooner p) (lower_junction p' r' s') = sooner (omega arith)
  before_is_transitive a b c (higher_rank p r) (sooner p') = sooner (omega arith)
  before_is_transitive a b c (higher_rank p r) (higher_rank p' r') = higher_rank (omega arith) (omega arith)
  before_is_transitive a b c (higher_rank p r) (lower_junction p' r' s') = higher_rank (omega arith) (omega arith)
  before_is_transitive a b c (lower_junction p r s) (sooner p') = sooner (omega arith)
  before_is_transitive a b c (lower_junction p r s) (higher_rank p' r') = higher_rank (omega arith) (omega arith)
  before_is_transitive a b c (lower_junction p r s) (lower_junction p' r' s') = lower_junction (omega arith) (omega arith) (omega arith)

  pub before_is_no_later : (a b : Arrival L) → Before m a b → a.time ≤ b.time
  before_is_no_later a b (sooner p) = omega arith
  before_is_no_later a b (higher_rank p r) = omega arith
  before_is_no_later a b (lower_junction p r s) = omega arith

module _ {L : Type 0} (m : Meaning L) (laws : Laws m) where
  pub before_same_or_after : (a b : Arrival L) → m.is_load a.load ≡ true → m.is_load b.load ≡ true → Before m a b ⊎ ((a ≡ b) ⊎ Before m b a)
  before_same_or_after a b h k = by_time (cases_order a.time b.time)
    where
      by_junction : a.time ≡ b.time → m.rank a.load ≡ m.rank b.load → (a.junction ≡ b.junction) ⊎ ((a.junction < b.junction) ⊎ (b.junction < a.junction)) → Before m a b ⊎ ((a ≡ b) ⊎ Before m b a)
      by_junction p r (inl s) = inr (inl (equal_parts_equal_arrivals a b s p (laws.equal_ranks_equal_loads a.load b.load h k r)))
      by_junction p r (inr (inl s)) = inl (lower_junction p r s)
      by_junction p r (inr (inr s)) = inr (inr (lower_junction (sym p) (sym r) s))

      by_rank : a.time ≡ b.time → (m.rank a.load ≡ m.rank b.load) ⊎ ((m.rank a.load < m.rank b.load) ⊎ (m.rank b.load < m.rank a.load)) → Before m a b ⊎ ((a ≡ b) ⊎ Before m b a)
      by_rank p (inl r) = by_junction p r (cases_order a.junction b.junction)
      by_rank p (inr (inl r)) = inr (inr (higher_rank (sym p) r))
      by_rank p (inr (inr r)) = inl (higher_rank p r)

      by_time : (a.time ≡ b.time) ⊎ ((a.time < b.time) ⊎ (b.time < a.time)) → Before m a b ⊎ ((a ≡ b) ⊎ Before m b a)
      by_time (inl p) = by_rank p (cases_order (m.rank a.load) (m.rank b.load))
      by_time (inr (inl p)) = inl (sooner p)
      by_time (inr (inr p)) = inr (inr (sooner p))
