-- What shutting or reopening one place does to the rows.
use Rattle.std.proofs.Common.{◌≡◌, ℕ, ◌<◌, ◌≤◌, true, cond, not, ◌&&◌, ◌||◌, ◌⊎◌, List, length, None, Option, sym, refl, ap, ◌∙◌, inl, inr, arith}
use Rattle.std.proofs.lemmas.Bool.{cases_lt, cond-true, cond-false, eq-eqb, and_from, or_left}
use Rattle.maps.specs.declared.road.Road.{Road}
use Rattle.maps.specs.Rows.{Rows, at, layered}
use Rattle.maps.specs.RowsSound.{at_tabulated, at_past, at_beyond, row_length, length_layered}
use Rattle.maps.specs.Entries.{Entry, shut_at}
use Rattle.maps.specs.Closures.{open_place, open_rows, same_place, OneMoreShut, OneLessShut, OnePlaceChanged}

at_layered : (g : ℕ → ℕ → Option Road → Option Road) (rows : Rows) (v k : ℕ) → v < length rows → k < 12 → at (layered g rows) v k ≡ g v k (at rows v k)
unfolding layered
at_layered g rows v k p q = at_tabulated (length rows) (λ v k. g v k (at rows v k)) v k p q

no_such_place : (g : ℕ → ℕ → Option Road → Option Road) (rows : Rows) (v k : ℕ) → v < length rows → 12 ≤ k → at (layered g rows) v k ≡ None
unfolding layered
no_such_place g rows v k p q = at_beyond (layered g rows) v k (omega (arith, row_length (length rows) (λ v k. g v k (at rows v k)) v p))

no_such_junction : (g : ℕ → ℕ → Option Road → Option Road) (rows : Rows) (v k : ℕ) → length rows ≤ v → at (layered g rows) v k ≡ None
no_such_junction g rows v k p = at_past (layered g rows) v k (omega (arith, length_layered g rows))

-- layers that agree at a place make it alike
layers_agree : (g g' : ℕ → ℕ → Option Road → Option Road) (rows : Rows) (v k : ℕ) → ((o : Option Road) → g v k o ≡ g' v k o) → at (layered g rows) v k ≡ at (layered g' rows) v k
layers_agree g g' rows v k same = by (cases_lt v (length rows)) (cases_lt k 12)
  where
    by : (v < length rows) ⊎ (length rows ≤ v) → (k < 12) ⊎ (12 ≤ k) → at (layered g rows) v k ≡ at (layered g' rows) v k
    by (inl p) (inl q) = at_layered g rows v k p q ∙ (same (at rows v k) ∙ sym (at_layered g' rows v k p q))
    by (inl p) (inr q) = no_such_place g rows v k p q ∙ sym (no_such_place g' rows v k p q)
    by (inr p) q = no_such_junction g rows v k p ∙ sym (no_such_junction g' rows v k p)

same_itself : (v k : ℕ) → same_place v k v k ≡ true
same_itself v k = and_from _ _ (eq-eqb v v refl) (eq-eqb k k refl)

module _ (rows : Rows) (es es' : List Entry) (v k : ℕ) (on_map : v < length rows) (of_twelve : k < 12) where
  kept_length : length (open_rows es' rows) ≡ length (open_rows es rows)
  kept_length = length_layered (open_place es') rows ∙ sym (length_layered (open_place es) rows)

  pub shut_place_is_empty : OneMoreShut v k es es' → OnePlaceChanged v k None (open_rows es rows) (open_rows es' rows)
  shut_place_is_empty one = record {
    junctions = kept_length;
    there = at_layered (open_place es') rows v k on_map of_twelve ∙ cond-true _ _ _ (one.shut v k ∙ or_left _ _ (same_itself v k));
    elsewhere = λ v' k' other. layers_agree (open_place es') (open_place es) rows v' k' (λ o. ap (λ t. cond t None o) (one.shut v' k' ∙ ap (λ t. t || shut_at es v' k') other));
  }

  pub reopened_place_is_as_below : OneLessShut v k es es' → OnePlaceChanged v k (at rows v k) (open_rows es rows) (open_rows es' rows)
  reopened_place_is_as_below one = record {
    junctions = kept_length;
    there = at_layered (open_place es') rows v k on_map of_twelve ∙ cond-false _ _ _ (one.shut v k ∙ ap (λ t. not t && shut_at es v k) (same_itself v k));
    elsewhere = λ v' k' other. layers_agree (open_place es') (open_place es) rows v' k' (λ o. ap (λ t. cond t None o) (one.shut v' k' ∙ ap (λ t. not t && shut_at es v' k') other));
  }
