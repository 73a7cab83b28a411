-- What is known of rows made from a function, and of the rows of a layer.
use Rattle.std.specs.Prelude.{◌≡◌, ℕ, ◌<◌, ◌≤◌, ◌⊎◌, List, [], map, length, get_or, Some, None, Option, slice_index_or}
use Rattle.std.proofs.Common.{sym, ap, subst, ◌∙◌, inl, inr, zero-add, arith}
use Rattle.std.specs.List.{range_with_len}
use Rattle.std.proofs.lemmas.List.FromFn.{length-map-range_with_len, get_or-map-range_with_len}
use Rattle.std.proofs.lemmas.List.{get_or_past}
use Rattle.std.proofs.lemmas.Bool.{cases_lt}
use Rattle.std.proofs.lemmas.Option.{none-some}
use Rattle.maps.specs.declared.road.Road.{Road}
use Rattle.maps.specs.Rows.{Rows, at, Fits, Sound, tabulated, layered}

pub length_tabulated : (n : ℕ) (f : ℕ → ℕ → Option Road) → length (tabulated n f) ≡ n
unfolding tabulated
length_tabulated n f = length-map-range_with_len (λ v. map (f v) (range_with_len 0 12)) 0 n

pub row_tabulated : (n : ℕ) (f : ℕ → ℕ → Option Road) (v : ℕ) → v < n → slice_index_or (tabulated n f) v [] ≡ map (f v) (range_with_len 0 12)
unfolding tabulated
row_tabulated n f v p = get_or-map-range_with_len (λ v. map (f v) (range_with_len 0 12)) 0 n v v [] p (zero-add v)

pub at_tabulated : (n : ℕ) (f : ℕ → ℕ → Option Road) (v k : ℕ) → v < n → k < 12 → at (tabulated n f) v k ≡ f v k
unfolding at
at_tabulated n f v k p q = ap (λ (row : List (Option Road)). get_or row k None) (row_tabulated n f v p) ∙ get_or-map-range_with_len (f v) 0 12 k k None q (zero-add k)

-- past the last row, and past a row's end, nothing stands
pub at_past : (rows : Rows) (v k : ℕ) → length rows ≤ v → at rows v k ≡ None
unfolding at
at_past rows v k p = ap (λ (row : List (Option Road)). get_or row k None) (get_or_past rows v [] p)

pub at_beyond : (rows : Rows) (v k : ℕ) → length (slice_index_or rows v []) ≤ k → at rows v k ≡ None
unfolding at
at_beyond rows v k p = get_or_past (slice_index_or rows v []) k None p

pub row_length : (n : ℕ) (f : ℕ → ℕ → Option Road) (v : ℕ) → v < n → length (slice_index_or (tabulated n f) v []) ≡ 12
row_length n f v p = ap length (row_tabulated n f v p) ∙ length-map-range_with_len (f v) 0 12

pub sound_tabulated : (n : ℕ) (f : ℕ → ℕ → Option Road) → n ≤ 9600 → ((v k : ℕ) (e : Road) → v < n → k < 12 → f v k ≡ Some e → Fits n e) → Sound (tabulated n f)
sound_tabulated n f few each = record {
  few = omega (arith, length_tabulated n f);
  twelve = λ v p. row_length n f v (omega (arith, length_tabulated n f));
  fits = λ v k e s. subst (λ m. Fits m e) (sym (length_tabulated n f)) (fit v k e s (cases_lt v n));
}
  where
    inside : (v k : ℕ) (e : Road) → at (tabulated n f) v k ≡ Some e → v < n → (k < 12) ⊎ (12 ≤ k) → Fits n e
    inside v k e s p (inl q) = each v k e p q (sym (at_tabulated n f v k p q) ∙ s)
    inside v k e s p (inr q) = absurd (none-some e (sym (at_beyond (tabulated n f) v k (omega (arith, row_length n f v p))) ∙ s))

    fit : (v k : ℕ) (e : Road) → at (tabulated n f) v k ≡ Some e → (v < n) ⊎ (n ≤ v) → Fits n e
    fit v k e s (inl p) = inside v k e s p (cases_lt k 12)
    fit v k e s (inr p) = absurd (none-some e (sym (at_past (tabulated n f) v k (omega (arith, length_tabulated n f))) ∙ s))

pub length_layered : (g : ℕ → ℕ → Option Road → Option Road) (rows : Rows) → length (layered g rows) ≡ length rows
unfolding layered
length_layered g rows = length_tabulated (length rows) (λ v k. g v k (at rows v k))

pub sound_layered : (g : ℕ → ℕ → Option Road → Option Road) (rows : Rows) → Sound rows → ((v k : ℕ) (e : Road) → g v k (at rows v k) ≡ Some e → Fits (length rows) e) → Sound (layered g rows)
unfolding layered
sound_layered g rows s each = sound_tabulated (length rows) (λ v k. g v k (at rows v k)) s.few (λ v k e p q. each v k e)
