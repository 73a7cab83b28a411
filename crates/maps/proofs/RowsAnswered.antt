-- What is known of rows made from a function, and of the rows of a layer.
use Rattle.std.proofs.Common.{◌≡◌, ℕ, ◌<◌, ◌≤◌, ◌⊎◌, length, None, Ok, Err, Option, sym, ap, ◌∙◌, inl, inr, arith}
use Rattle.std.proofs.lemmas.Bool.{cases_lt, le-ltb}
use Rattle.std.proofs.lemmas.Bool.Decides.{nat_tests}
use Rattle.maps.specs.declared.road.Road.{Road}
use Rattle.refusals.specs.declared.refusal.Refusal.{Refusal}
use Rattle.maps.specs.RowsSound.{length_tabulated, at_tabulated, at_past, at_beyond}
use Rattle.maps.specs.Rows.{Rows, at, Sound, reply, answered, tabulated, layered}

-- the reply looks at the place only where both questions are in range
pub reply_same : (n v k : ℕ) (a b : Option Road) → (v < n → k < 12 → a ≡ b) → reply n v k a ≡ reply n v k b
reply_same n v k a b same = by (cases_lt v n) (cases_lt k 12)
  where
    by : (v < n) ⊎ (n ≤ v) → (k < 12) ⊎ (12 ≤ k) → reply n v k a ≡ reply n v k b
    by (inl p) (inl q) = ap (reply n v k) (same p q)
    by (inl p) (inr q) = rw (le-ltb k 12 q)
    by (inr p) (inl q) = rw (le-ltb v n p)
    by (inr p) (inr q) = rw (le-ltb v n p)

pub answered_tabulated : (n : ℕ) (f : ℕ → ℕ → Option Road) (v k : ℕ) → answered (tabulated n f) v k ≡ reply n v k (f v k)
answered_tabulated n f v k = ap (λ m. reply m v k (at (tabulated n f) v k)) (length_tabulated n f) ∙ reply_same n v k _ _ (at_tabulated n f v k)

pub answered_layered : (g : ℕ → ℕ → Option Road → Option Road) (rows : Rows) (v k : ℕ) → answered (layered g rows) v k ≡ reply (length rows) v k (g v k (at rows v k))
unfolding layered
answered_layered g rows v k = answered_tabulated (length rows) (λ v k. g v k (at rows v k)) v k

-- what the map below answered tells what it holds, and what the layer answers
module _ (n v k : ℕ) (a b : Option Road) where
  refused : (e : Refusal) → Err e ≡ reply n v k a → Err e ≡ reply n v k b
  refused e h = grind (arith, nat_tests)

  found : (o : Option Road) → Ok o ≡ reply n v k a → Ok b ≡ reply n v k b
  found o h = grind (arith, nat_tests)

  holds : (o : Option Road) → Ok o ≡ reply n v k a → o ≡ a
  holds o h = grind (arith, nat_tests)

pub answered_at : (rows : Rows) (v k : ℕ) (o : Option Road) → Ok o ≡ answered rows v k → at rows v k ≡ o
answered_at rows v k o h = sym (holds (length rows) v k (at rows v k) None o h)

pub layer_refused : (g : ℕ → ℕ → Option Road → Option Road) (rows : Rows) (v k : ℕ) (e : Refusal) → Err e ≡ answered rows v k → Err e ≡ answered (layered g rows) v k
layer_refused g rows v k e h = refused (length rows) v k (at rows v k) (g v k (at rows v k)) e h ∙ sym (answered_layered g rows v k)

pub layer_found : (g : ℕ → ℕ → Option Road → Option Road) (rows : Rows) (v k : ℕ) (o : Option Road) → Ok o ≡ answered rows v k → Ok (g v k o) ≡ answered (layered g rows) v k
layer_found g rows v k o h =
    ap (λ x. Ok (g v k x)) (sym (answered_at rows v k o h)) ∙ (found (length rows) v k (at rows v k) (g v k (at rows v k)) o h ∙ sym (answered_layered g rows v k))

-- a map made from a function answers by it
pub tabulated_found : (n : ℕ) (f : ℕ → ℕ → Option Road) (v k : ℕ) (o : Option Road) → v < n → k < 12 → o ≡ f v k → Ok o ≡ answered (tabulated n f) v k
tabulated_found n f v k o p q e = ap Ok e ∙ (inside (f v k) ∙ sym (answered_tabulated n f v k))
  where
    inside : (x : Option Road) → Ok x ≡ reply n v k x
    inside x = grind (arith, nat_tests)

-- a refused question asks of no place, so no road is there
pub refused_place_holds_no_road : (rows : Rows) (v k : ℕ) (e : Refusal) → Sound rows → Err e ≡ answered rows v k → at rows v k ≡ None
refused_place_holds_no_road rows v k e s h = by (cases_lt v (length rows)) (cases_lt k 12)
  where
    by : (v < length rows) ⊎ (length rows ≤ v) → (k < 12) ⊎ (12 ≤ k) → at rows v k ≡ None
    by (inl p) (inl q) = absurd (let z : ◌≡◌ {A = ℕ} 0 1 = grind (arith, nat_tests) in omega arith)
    by (inl p) (inr q) = at_beyond rows v k (omega (arith, s.twelve v p))
    by (inr p) q = at_past rows v k p
