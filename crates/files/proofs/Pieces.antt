-- A text's first piece ends where its first byte b stands, and the rest falls into the other pieces.
use Rattle.std.proofs.Common.{◌≡◌, ℕ, ◌+◌, ◌<◌, ◌≤◌, true, false, cond, eqb, List, [], ◌∷◌, length, take, drop, Some, None, Ok, Err, Option, Result, sym, refl, ap, ◌∙◌, subst, arith, ne_eqb, ⊎_elim}
use Rattle.std.specs.List.{onto_first, position, position_or_len}
use Rattle.std.proofs.lemmas.Bool.{cases_lt, lt-ltb, le-ltb}
use Rattle.std.proofs.lemmas.List.Splits.{slice_split_first, slice_split_none}
use Rattle.std.proofs.lemmas.List.Sums.{fails_before_first}
use Rattle.std.proofs.lemmas.List.Elements.{All-from_get_or}
use Rattle.files.proofs.FirstFault.{some_value, some_no_none}
use Rattle.files.specs.Lines.{pieces}
use Rattle.files.specs.Faults.{placed}
use Rattle.files.specs.LinesLeft.{next_line, after_line, count_after}
use Rattle.std.proofs.lemmas.List.{at_drop_all}
use Rattle.refusals.specs.declared.refusal.Refusal.TheVariants.{LineNotEnded}
use Rattle.files.specs.declared.fault.LineFault.TheVariants.{WholeLine}
use Rattle.files.specs.declared.fault.FileName.{FileName}
use Rattle.files.specs.declared.fault.FileFault.{FileFault}

onto_first_some : (x : ℕ) (ps : List (List ℕ)) → (q : List ℕ) × (rs : List (List ℕ)) × (onto_first x ps ≡ q ∷ rs)
onto_first_some x [] = (x ∷ [], [], refl)
onto_first_some x (p ∷ ps) = (x ∷ p, ps, refl)

pub some_piece : (b : ℕ) (xs : List ℕ) → (q : List ℕ) × (rs : List (List ℕ)) × (pieces b xs ≡ q ∷ rs)
some_piece b [] = ([], [], refl)
some_piece b (x ∷ xs) =
    elim (eqb x b) as (λ t. (q : List ℕ) × (rs : List (List ℕ)) × (cond t ([] ∷ pieces b xs) (onto_first x (pieces b xs)) ≡ q ∷ rs))
    [ true ↦ ([], pieces b xs, refl) | false ↦ onto_first_some x (pieces b xs) ]

-- the first piece ends where the first byte b stands
pub piece_cut : (b : ℕ) (xs : List ℕ) (i : ℕ) → position (λ x. eqb x b) xs ≡ Some i → (i < length xs) × (pieces b xs ≡ take i xs ∷ pieces b (drop (i + 1) xs))
piece_cut b xs i e =
    let n = position_or_len (λ x. eqb x b) xs in
    ⊎_elim
    (λ less.
    let same : n ≡ i = some_value (sym (ap (λ t. cond t (Some n) None) (lt-ltb n (length xs) less)) ∙ e) in
    subst (λ k. (k < length xs) × (pieces b xs ≡ take k xs ∷ pieces b (drop (k + 1) xs))) same (less, slice_split_first (λ x. eqb x b) xs 0 less))
    (λ far. absurd (some_no_none (sym e ∙ ap (λ t. cond t (Some n) None) (le-ltb n (length xs) far))))
    (cases_lt n (length xs))

-- without a byte b there is one piece
pub one_piece : (b : ℕ) (xs : List ℕ) → position (λ x. eqb x b) xs ≡ None → pieces b xs ≡ xs ∷ []
one_piece b xs e =
    let n = position_or_len (λ x. eqb x b) xs in
    ⊎_elim
    (λ less. absurd (some_no_none (sym (ap (λ t. cond t (Some n) None) (lt-ltb n (length xs) less)) ∙ e)))
    (λ far. slice_split_none (λ x. eqb x b) xs (All-from_get_or (λ x. eqb x b ≡ false) xs 0 (λ i h. fails_before_first (λ x. eqb x b) xs i 0 (omega arith))))
    (cases_lt n (length xs))

pub next_line_some : (file : FileName) (n : ℕ) (p : List ℕ) (b : ℕ) (ys : List ℕ) → next_line file n (p ∷ pieces b ys) ≡ Ok (Some p)
next_line_some file n p b ys = let s = some_piece b ys in ap (λ l. next_line file n (p ∷ l)) s.2

pub after_line_some : (p : List ℕ) (b : ℕ) (ys : List ℕ) → after_line (p ∷ pieces b ys) ≡ pieces b ys
after_line_some p b ys = let s = some_piece b ys in ap (λ l. after_line (p ∷ l)) s.2 ∙ sym s.2

pub count_after_some : (n : ℕ) (p : List ℕ) (b : ℕ) (ys : List ℕ) → count_after n (p ∷ pieces b ys) ≡ n + 1
count_after_some n p b ys = let s = some_piece b ys in ap (λ l. count_after n (p ∷ l)) s.2

-- what the reader finds after n lines: nothing, a line that is not ended, or a line
pub record Found (file : FileName) (n : ℕ) (ps : List (List ℕ)) (r : Result (Option (List ℕ)) FileFault) (qs : List (List ℕ)) (m : ℕ) : Type 0 where
  pub answer : r ≡ next_line file n ps
  pub after : qs ≡ after_line ps
  pub count : m ≡ count_after n ps

at_one : (file : FileName) (n : ℕ) (ps : List (List ℕ)) (p : List ℕ) → ps ≡ p ∷ [] → Found file n ps (next_line file n (p ∷ [])) ps n
at_one file n ps p e = record { answer = sym (ap (next_line file n) e); after = e ∙ sym (ap after_line e); count = sym (ap (count_after n) e) }

pub at_end : (file : FileName) (n : ℕ) (t : List ℕ) (at : ℕ) → length t ≤ at → Found file n (pieces 10 (drop at t)) (Ok None) (pieces 10 (drop at t)) n
at_end file n t at h = at_one file n (pieces 10 (drop at t)) [] (at_drop_all (pieces 10) t at h)

pub not_ended : (file : FileName) (n : ℕ) (xs : List ℕ) → 0 < length xs → position (λ x. eqb x 10) xs ≡ None → Found file n (pieces 10 xs) (Err (placed file (n + 1) (WholeLine LineNotEnded))) (pieces 10 xs) n
not_ended file n xs some none =
    subst (λ r. Found file n (pieces 10 xs) r (pieces 10 xs) n)
    (ap (λ t. cond t (Ok None) (Err (placed file (n + 1) (WholeLine LineNotEnded)))) (ne_eqb (length xs) 0 (omega arith)))
    (at_one file n (pieces 10 xs) xs (one_piece 10 xs none))

pub one_line : (file : FileName) (n : ℕ) (xs : List ℕ) (i : ℕ) → position (λ x. eqb x 10) xs ≡ Some i → Found file n (pieces 10 xs) (Ok (Some (take i xs))) (pieces 10 (drop (i + 1) xs)) (n + 1)
one_line file n xs i h =
    let cut = (piece_cut 10 xs i h).1 in
    let tail = drop (i + 1) xs in
    record {
      answer = sym (ap (next_line file n) cut ∙ next_line_some file n (take i xs) 10 tail);
      after = sym (ap after_line cut ∙ after_line_some (take i xs) 10 tail);
      count = sym (ap (count_after n) cut ∙ count_after_some n (take i xs) 10 tail);
    }
