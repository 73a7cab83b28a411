-- Rows that are a chart in words are the computed chart: there is one.
use Rattle.std.proofs.Common.{◌≡◌, ℕ, zero, suc, ◌<◌, ◌≤◌, ◌⊎◌, ◌↔◌, List, length, get_or, sym, ap, ◌∙◌, subst, inl, inr, arith}
use Rattle.std.proofs.lemmas.List.{ext_get_or}
use Rattle.std.proofs.lemmas.Bool.{cases_lt, cases_order}
use Rattle.loads.specs.declared.profile.Profile.{Profile}
use Rattle.front.specs.declared.label.Label.{Label}
use Rattle.charts.specs.declared.row.Row.{Row}
use Rattle.charts.specs.Chart.{row_of, chart, no_row, IsChart}
use Rattle.charts.proofs.ChartRows.{no_label, chart_is_a_chart}

module _ (goal : ℕ) (listed : List (Label Profile)) where
  abbrev number : List Row → ℕ → ℕ
  number rows i = (get_or rows i no_row).label

  -- where two charts agree below i, the one's label i is not before the other's
  agreeing_below_is_not_before : (r s : List Row) → IsChart goal listed r → IsChart goal listed s → (i : ℕ) → i < length r → i < length s → ((j : ℕ) → j < i → number r j ≡ number s j) → number r i < number s i → ⊥
  agreeing_below_is_not_before r s c d i h k same l = go (d.each_label_that_needs_less_has_a_row (number r i) (c.each_label_of_a_row_needs_less_than_all_earlier i h))
    where
      at : (j : ℕ) → j < length s → number s j ≡ number r i → (j ≡ i) ⊎ ((j < i) ⊎ (i < j)) → ⊥
      at j q e (inl p) = omega (arith, e, ap (number s) p)
      at j q e (inr (inl p)) = omega (arith, e, same j p, c.in_the_labels_order j i p h)
      at j q e (inr (inr p)) = omega (arith, e, d.in_the_labels_order i j p q)

      go : (j : ℕ) × (j < length s) × (number s j ≡ number r i) → ⊥
      go (j, q, e) = at j q e (cases_order j i)

  agree_below : (r s : List Row) → IsChart goal listed r → IsChart goal listed s → (n j : ℕ) → j < n → j < length r → j < length s → number r j ≡ number s j
  agree_below r s c d zero j l h k = absurd (omega arith)
  agree_below r s c d (suc n) j l h k = go (λ i p. agree_below r s c d n i (omega arith) (omega arith) (omega arith)) (cases_order (number r j) (number s j))
    where
      go : ((i : ℕ) → i < j → number r i ≡ number s i) → (number r j ≡ number s j) ⊎ ((number r j < number s j) ⊎ (number s j < number r j)) → number r j ≡ number s j
      go same (inl e) = e
      go same (inr (inl p)) = absurd (agreeing_below_is_not_before r s c d j h k same p)
      go same (inr (inr p)) = absurd (agreeing_below_is_not_before s r d c j k h (λ i q. sym (same i q)) p)

  no_longer : (r s : List Row) → IsChart goal listed r → IsChart goal listed s → length r ≤ length s
  no_longer r s c d = go (cases_lt (length s) (length r))
    where
      in_the_other : (l : length s < length r) → (j : ℕ) × (j < length s) × (number s j ≡ number r (length s)) → ⊥
      in_the_other l (j, h, e) = omega (arith, e, agree_below r s c d (suc j) j (omega arith) (omega arith) h, c.in_the_labels_order j (length s) h l)

      go : (length s < length r) ⊎ (length r ≤ length s) → length r ≤ length s
      go (inl l) = absurd (in_the_other l (d.each_label_that_needs_less_has_a_row (number r (length s)) (c.each_label_of_a_row_needs_less_than_all_earlier (length s) l)))
      go (inr l) = l

  same_rows : (r s : List Row) → IsChart goal listed r → IsChart goal listed s → r ≡ s
  same_rows r s c d = ext_get_or no_row r s same_length same_row
    where
      same_length : length r ≡ length s
      same_length = omega (arith, no_longer r s c d, no_longer s r d c)

      same_row : (i : ℕ) → i < length r → get_or r i no_row ≡ get_or s i no_row
      same_row i h = c.each_row_tells_its_label i no_label h ∙ ap (λ (n : ℕ). row_of n (get_or listed n no_label)) (agree_below r s c d (suc i) i (omega arith) h (omega (arith, h, same_length))) ∙ sym (d.each_row_tells_its_label i no_label (omega (arith, h, same_length)))

  pub one_chart : (rows : List Row) → IsChart goal listed rows ↔ (rows ≡ chart goal listed)
  one_chart rows = (λ c. same_rows rows (chart goal listed) c (chart_is_a_chart goal listed), λ e. subst (λ (r : List Row). IsChart goal listed r) (sym e) (chart_is_a_chart goal listed))
