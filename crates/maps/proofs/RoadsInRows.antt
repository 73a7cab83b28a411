-- The entries of tables by rows: twelve for each junction, and no road at or behind its count.
use Rattle.std.proofs.Common.{◌≡◌, ℕ, zero, suc, ◌+◌, ◌*◌, ◌/◌, ◌%◌, ◌<◌, ◌≤◌, length, None, slice_index, sym, subst, arith}
use Rattle.std.proofs.lemmas.Bool.{cond-false, le-ltb}
use Rattle.std.proofs.lemmas.Bool.Decides.{nat_tests}
use Rattle.maps.specs.declared.table.Tables.{Tables}
use Rattle.maps.specs.FirstFailure.{first_failure}
use Rattle.maps.specs.FirstFailureFound.{first_failure_more, first_failure_each}
use Rattle.maps.specs.Table.{count_fault, tables_entry_fault, tables_lengths_fault}

module _ (t : Tables) where
  pub count_within : (v : ℕ) → v < length t.counts.now → first_failure (count_fault t.counts.now) (length t.counts.now) ≡ None → slice_index t.counts.now v ≤ 12
  count_within v lt e = let passed = first_failure_each (count_fault t.counts.now) (length t.counts.now) v lt e in grind (arith, nat_tests)

  pub rows_long : tables_lengths_fault t ≡ None → (length t.heads.now ≡ 12 * length t.counts.now) × (length t.times.now ≡ 12 * length t.counts.now) × (length t.draws.now ≡ 12 * length t.counts.now)
  rows_long e = (grind (arith, nat_tests), grind (arith, nat_tests), grind (arith, nat_tests))

  -- an entry of a junction's row that is below its count
  pub below_count : (v i : ℕ) → 12 * v ≤ i → i < 12 * v + slice_index t.counts.now v → slice_index t.counts.now v ≤ 12 → i % 12 < slice_index t.counts.now (i / 12)
  below_count v i lo hi few =
      let row : i / 12 ≡ v = omega arith in
      subst (λ w. i % 12 < slice_index t.counts.now w) (sym row) (omega arith)

  -- one that is not has no road to check
  pub behind_count : (v i : ℕ) → 12 * v + slice_index t.counts.now v ≤ i → i < 12 * v + 12 → tables_entry_fault t i ≡ None
  behind_count v i lo hi =
      let row : i / 12 ≡ v = omega arith in
      let past : slice_index t.counts.now (i / 12) ≤ i % 12 = subst (λ w. slice_index t.counts.now w ≤ i % 12) (sym row) (omega arith) in
      cond-false _ _ _ (le-ltb _ _ past)

  -- so the first failure of a row's roads is the first of the whole row
  pub whole_row : (v m left : ℕ) → 12 * v + slice_index t.counts.now v ≤ m → m + left ≡ 12 * (v + 1) → first_failure (tables_entry_fault t) m ≡ None → first_failure (tables_entry_fault t) (12 * (v + 1)) ≡ None
  whole_row v m zero lo e p = let same : m ≡ 12 * (v + 1) = omega arith in subst (λ k. first_failure (tables_entry_fault t) k ≡ None) same p
  whole_row v m (suc left) lo e p = whole_row v (m + 1) left (omega arith) (omega arith) (first_failure_more (tables_entry_fault t) m p (behind_count v m lo (omega arith)))
