-- An order by a number, and after it by another order, is a strict weak order.
use Rattle.std.specs.Prelude.{◌≡◌, ℕ, ◌<◌, Bool, true, false, cond, ◌⊎◌, nat_lt, refl}
use Rattle.std.proofs.Common.{sym, ◌∙◌, inl, inr, ⊎_elim, true≢false, arith, ltb-true, ltb-false, lt-ltb, le-ltb}
use Rattle.std.specs.Cmp.{IsStrictWeakOrder}
use Rattle.promises.specs.Order.{rising, falling}

abbrev lex : ℕ → ℕ → Bool → Bool
lex i j t = cond (nat_lt i j) true (cond (nat_lt j i) false t)

fails : (i j : ℕ) (t : Bool) → lex i j t ≡ false → (j < i) ⊎ ((i ≡ j) × (t ≡ false))
fails i j t = go (nat_lt i j) (nat_lt j i) refl refl
  where
    go : (a b : Bool) → nat_lt i j ≡ a → nat_lt j i ≡ b → cond a true (cond b false t) ≡ false → (j < i) ⊎ ((i ≡ j) × (t ≡ false))
    go true b p q e = absurd (true≢false e)
    go false true p q e = inl (ltb-true j i q)
    go false false p q e = inr (omega (arith, ltb-false i j p, ltb-false j i q), e)

failing : (i j : ℕ) (t : Bool) → (j < i) ⊎ ((i ≡ j) × (t ≡ false)) → lex i j t ≡ false
failing i j t = ⊎_elim
    (λ (h : j < i). (λ k. cond (le-ltb i j (omega arith) k) true (cond (lt-ltb j i h k) false t)))
    (λ h. (λ k. cond (le-ltb i j (omega (arith, h.0)) k) true (cond (le-ltb j i (omega (arith, h.0)) k) false (h.1 k))))

holds : (i j : ℕ) (t u : Bool) → (t ≡ true → u ≡ false) → lex i j t ≡ true → lex j i u ≡ false
holds i j t u w = go (nat_lt i j) (nat_lt j i) refl refl
  where
    go : (a b : Bool) → nat_lt i j ≡ a → nat_lt j i ≡ b → cond a true (cond b false t) ≡ true → cond b true (cond a false u) ≡ false
    go true true p q e = absurd (omega (arith, ltb-true i j p, ltb-true j i q))
    go true false p q e = refl
    go false true p q e = sym e
    go false false p q e = w e

pub all_tie_ranks : {X : Type 0} → IsStrictWeakOrder {X = X} (λ _ _. false)
all_tie_ranks = record { one_way = λ x y e. refl; chain = λ x y z p q. refl }

module _ {X : Type 0} (f : X → ℕ) (after : X → X → Bool) (o : IsStrictWeakOrder after) where
  steps : (i j k : ℕ) (x y z : X) → (j < i) ⊎ ((i ≡ j) × (after x y ≡ false)) → (k < j) ⊎ ((j ≡ k) × (after y z ≡ false)) → (k < i) ⊎ ((i ≡ k) × (after x z ≡ false))
  steps i j k x y z (inl p) (inl q) = inl (omega arith)
  steps i j k x y z (inl p) (inr q) = inl (omega arith)
  steps i j k x y z (inr p) (inl q) = inl (omega arith)
  steps i j k x y z (inr p) (inr q) = inr (p.0 ∙ q.0, o.chain x y z p.1 q.1)

  pub rising_ranks : IsStrictWeakOrder (rising f after)
  rising_ranks = record {
    one_way = λ x y. holds (f x) (f y) (after x y) (after y x) (o.one_way x y);
    chain = λ x y z p q. failing (f x) (f z) (after x z) (steps (f x) (f y) (f z) x y z (fails (f x) (f y) (after x y) p) (fails (f y) (f z) (after y z) q));
  }

  back : (i j k : ℕ) (x y z : X) → (i < j) ⊎ ((j ≡ i) × (after x y ≡ false)) → (j < k) ⊎ ((k ≡ j) × (after y z ≡ false)) → (i < k) ⊎ ((k ≡ i) × (after x z ≡ false))
  back i j k x y z (inl p) (inl q) = inl (omega arith)
  back i j k x y z (inl p) (inr q) = inl (omega arith)
  back i j k x y z (inr p) (inl q) = inl (omega arith)
  back i j k x y z (inr p) (inr q) = inr (q.0 ∙ p.0, o.chain x y z p.1 q.1)

  pub falling_ranks : IsStrictWeakOrder (falling f after)
  falling_ranks = record {
    one_way = λ x y. holds (f y) (f x) (after x y) (after y x) (o.one_way x y);
    chain = λ x y z p q. failing (f z) (f x) (after x z) (back (f x) (f y) (f z) x y z (fails (f y) (f x) (after x y) p) (fails (f z) (f y) (after y z) q));
  }
