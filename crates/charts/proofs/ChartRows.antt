-- Which labels the rows of a chart come from, and that the rows leave no gap.
use Rattle.std.proofs.Common.{◌≡◌, ℕ, zero, suc, ◌+◌, ◌<◌, ◌≤◌, Bool, true, false, cond, ◌&&◌, eqb, ◌⊎◌, List, [], ◌∷◌, ◌++◌, length, get_or, Some, None, Option, sym, refl, ap, ◌∙◌, subst, inl, inr, arith}
use Rattle.std.proofs.lemmas.Bool.{ltb-true, ltb-false, lt-ltb, eqb-true, eq-eqb, and_parts, cases_lt, cases_order, both_ways}
use Rattle.loads.specs.declared.profile.Profile.{Profile}
use Rattle.front.specs.declared.label.Label.{Label}
use Rattle.charts.specs.declared.row.Row.{Row}
use Rattle.charts.specs.Chart.{below_least, gets_row, row_of, rows_from, chart, no_row, BelowRowBefore, Covers, NeedsLessThanAllEarlier, IsChart}

abbrev pub need_of : Label Profile → ℕ
need_of x = x.arrival.load.need

-- any label, to read a list that is long enough
pub no_label : Label Profile
no_label = record { arrival = record { junction = 0; time = 0; load = record { need = 0; low = 0; high = 0 } }; before = 0; place = 0 }

-- n is not below the least need so far
abbrev pub NotBelow : Option ℕ → ℕ → Type 0
NotBelow None n = ⊥
NotBelow (Some m) n = m ≤ n

-- b is below the least need so far; where there is none, b is at most m
abbrev pub Under : ℕ → Option ℕ → ℕ → Type 0
Under m None b = b ≤ m
Under m (Some n) b = b < n

-- the least need of the rows before row i, after those that came down to the least need
abbrev pub least_before : Option ℕ → List Row → ℕ → Option ℕ
least_before least rows zero = least
least_before least rows (suc i) = Some (get_or rows i no_row).need

pub under_the_row_before : (m : ℕ) (rows : List Row) (i b : ℕ) → BelowRowBefore m rows i b → Under m (least_before None rows i) b
under_the_row_before m rows zero b h = h
under_the_row_before m rows (suc i) b h = h

below_the_row_before : (m : ℕ) (rows : List Row) (i b : ℕ) → Under m (least_before None rows i) b → BelowRowBefore m rows i b
below_the_row_before m rows zero b h = h
below_the_row_before m rows (suc i) b h = h

not_below : (n : ℕ) (least : Option ℕ) → below_least n least ≡ false → NotBelow least n
not_below n None h = both_ways true h refl
not_below n (Some m) h = ltb-false n m h

below_is_at_most_what_is_not_below : (m n : ℕ) (least : Option ℕ) → below_least m least ≡ true → NotBelow least n → m ≤ n
below_is_at_most_what_is_not_below m n None h k = absurd k
below_is_at_most_what_is_not_below m n (Some l) h k = let p = ltb-true m l h in omega arith

below_is_less_than_what_is_not_below : (m n : ℕ) (least : Option ℕ) → below_least m least ≡ true → NotBelow least n → m < n
below_is_less_than_what_is_not_below m n None h k = absurd k
below_is_less_than_what_is_not_below m n (Some l) h k = let p = ltb-true m l h in omega arith

below_is_transitive : (a b : ℕ) (least : Option ℕ) → below_least a (Some b) ≡ true → below_least b least ≡ true → below_least a least ≡ true
below_is_transitive a b None h k = refl
below_is_transitive a b (Some l) h k = let p = ltb-true a b h in let r = ltb-true b l k in lt-ltb a l (omega arith)

pub under_is_not_above : (m : ℕ) (least : Option ℕ) (n b : ℕ) → Under m least b → NotBelow least n → n ≤ b → ⊥
under_is_not_above m None n b u k l = k
under_is_not_above m (Some x) n b u k l = omega arith

without_a_row_not_below : (goal : ℕ) (least : Option ℕ) (x : Label Profile) → gets_row goal least x ≡ false → x.arrival.junction ≡ goal → NotBelow least (need_of x)
without_a_row_not_below goal least x h e = not_below (need_of x) least (sym (ap (λ (t : Bool). t && below_least (need_of x) least) (eq-eqb x.arrival.junction goal e)) ∙ h)

-- the rows of labels with x in front, when it is known whether x gets a row
abbrev rows_with_first : Bool → ℕ → ℕ → Option ℕ → Label Profile → List (Label Profile) → List Row
rows_with_first t goal n least x xs = cond t (row_of n x ∷ []) [] ++ rows_from goal (suc n) (cond t (Some (need_of x)) least) xs

least_before_with_first : (least : Option ℕ) (r : Row) (rows : List Row) (i : ℕ) → least_before (Some r.need) rows i ≡ least_before least (r ∷ rows) (suc i)
least_before_with_first least r rows zero = refl
least_before_with_first least r rows (suc i) = refl

-- every row needs less than the least so far
row_is_below : (goal n : ℕ) (least : Option ℕ) (xs : List (Label Profile)) (i : ℕ) → i < length (rows_from goal n least xs) → below_least (get_or (rows_from goal n least xs) i no_row).need least ≡ true
row_is_below goal n least [] i h = absurd (omega arith)
row_is_below goal n least (x ∷ xs) i h = go (gets_row goal least x) refl i h (λ l j k. row_is_below goal (suc n) l xs j k)
  where
    go : (t : Bool) → gets_row goal least x ≡ t → (i : ℕ) → i < length (rows_with_first t goal n least x xs) → ((l : Option ℕ) (j : ℕ) → j < length (rows_from goal (suc n) l xs) → below_least (get_or (rows_from goal (suc n) l xs) j no_row).need l ≡ true) → below_least (get_or (rows_with_first t goal n least x xs) i no_row).need least ≡ true
    go true p zero h more = (and_parts (eqb x.arrival.junction goal) _ p).1
    go true p (suc i) h more = below_is_transitive (get_or (rows_from goal (suc n) (Some (need_of x)) xs) i no_row).need (need_of x) least (more (Some (need_of x)) i (omega arith)) (and_parts (eqb x.arrival.junction goal) _ p).1
    go false p i h more = more least i h

-- and less than the row before it
row_is_below_the_row_before : (goal n : ℕ) (least : Option ℕ) (xs : List (Label Profile)) (i : ℕ) → i < length (rows_from goal n least xs) → below_least (get_or (rows_from goal n least xs) i no_row).need (least_before least (rows_from goal n least xs) i) ≡ true
row_is_below_the_row_before goal n least [] i h = absurd (omega arith)
row_is_below_the_row_before goal n least (x ∷ xs) i h = go (gets_row goal least x) refl i h (λ l j k. row_is_below_the_row_before goal (suc n) l xs j k)
  where
    go : (t : Bool) → gets_row goal least x ≡ t → (i : ℕ) → i < length (rows_with_first t goal n least x xs) → ((l : Option ℕ) (j : ℕ) → j < length (rows_from goal (suc n) l xs) → below_least (get_or (rows_from goal (suc n) l xs) j no_row).need (least_before l (rows_from goal (suc n) l xs) j) ≡ true) → below_least (get_or (rows_with_first t goal n least x xs) i no_row).need (least_before least (rows_with_first t goal n least x xs) i) ≡ true
    go true p zero h more = (and_parts (eqb x.arrival.junction goal) _ p).1
    go true p (suc i) h more = subst (λ (o : Option ℕ). below_least (get_or (rows_from goal (suc n) (Some (need_of x)) xs) i no_row).need o ≡ true) (least_before_with_first least (row_of n x) (rows_from goal (suc n) (Some (need_of x)) xs) i) (more (Some (need_of x)) i (omega arith))
    go false p i h more = more least i h

-- row i is that of a label at the goal, before which no label at the goal needs less than the row before
pub record RowOfLabel (goal n : ℕ) (least : Option ℕ) (xs : List (Label Profile)) (rows : List Row) (i : ℕ) : Type 0 where
  pub place : ℕ
  pub is_listed : place < length xs
  pub row : (d : Label Profile) → get_or rows i no_row ≡ row_of (n + place) (get_or xs place d)
  pub at_goal : (d : Label Profile) → (get_or xs place d).arrival.junction ≡ goal
  pub earlier_need_no_less : (j : ℕ) (d : Label Profile) → j < place → (get_or xs j d).arrival.junction ≡ goal → NotBelow (least_before least rows i) (need_of (get_or xs j d))

not_below_the_row_before : (least : Option ℕ) (rows : List Row) (i m : ℕ) → i < length rows → ((j : ℕ) → j < length rows → below_least (get_or rows j no_row).need least ≡ true) → NotBelow least m → NotBelow (least_before least rows i) m
not_below_the_row_before least rows zero m h all k = k
not_below_the_row_before least rows (suc i) m h all k = below_is_at_most_what_is_not_below (get_or rows i no_row).need m least (all i (omega arith)) k

row_is_of_a_label : (goal n : ℕ) (least : Option ℕ) (xs : List (Label Profile)) (i : ℕ) → i < length (rows_from goal n least xs) → RowOfLabel goal n least xs (rows_from goal n least xs) i
row_is_of_a_label goal n least [] i h = absurd (omega arith)
row_is_of_a_label goal n least (x ∷ xs) i h = go (gets_row goal least x) refl i h (λ l j k. row_is_of_a_label goal (suc n) l xs j k)
  where
    go : (t : Bool) → gets_row goal least x ≡ t → (i : ℕ) → i < length (rows_with_first t goal n least x xs) → ((l : Option ℕ) (j : ℕ) → j < length (rows_from goal (suc n) l xs) → RowOfLabel goal (suc n) l xs (rows_from goal (suc n) l xs) j) → RowOfLabel goal n least (x ∷ xs) (rows_with_first t goal n least x xs) i
    go true p zero h more = record { place = 0; is_listed = omega arith; row = λ d. ap (λ (k : ℕ). row_of k x) (omega arith); at_goal = λ d. eqb-true x.arrival.junction goal (and_parts (eqb x.arrival.junction goal) _ p).0; earlier_need_no_less = λ j d k e. absurd (omega arith) }
    go true p (suc i) h more =
        let f = more (Some (need_of x)) i (omega arith) in
        record { place = suc f.place; is_listed = omega (arith, f.is_listed); row = λ d. f.row d ∙ ap (λ (k : ℕ). row_of k (get_or xs f.place d)) (omega arith); at_goal = f.at_goal; earlier_need_no_less = earlier f }
      where
        rest : List Row
        rest = rows_from goal (suc n) (Some (need_of x)) xs

        first_needs_no_less : NotBelow (least_before (Some (need_of x)) rest i) (need_of x)
        first_needs_no_less = not_below_the_row_before (Some (need_of x)) rest i (need_of x) (omega arith) (λ j k. row_is_below goal (suc n) (Some (need_of x)) xs j k) (omega arith)

        earlier : (f : RowOfLabel goal (suc n) (Some (need_of x)) xs rest i) (j : ℕ) (d : Label Profile) → j < suc f.place → (get_or (x ∷ xs) j d).arrival.junction ≡ goal → NotBelow (least_before least (row_of n x ∷ rest) (suc i)) (need_of (get_or (x ∷ xs) j d))
        earlier f zero d k e = subst (λ (o : Option ℕ). NotBelow o (need_of x)) (least_before_with_first least (row_of n x) rest i) first_needs_no_less
        earlier f (suc j) d k e = subst (λ (o : Option ℕ). NotBelow o (need_of (get_or xs j d))) (least_before_with_first least (row_of n x) rest i) (f.earlier_need_no_less j d (omega arith) e)
    go false p i h more =
        let f = more least i h in
        record { place = suc f.place; is_listed = omega (arith, f.is_listed); row = λ d. f.row d ∙ ap (λ (k : ℕ). row_of k (get_or xs f.place d)) (omega arith); at_goal = f.at_goal; earlier_need_no_less = earlier f }
      where
        rest : List Row
        rest = rows_from goal (suc n) least xs

        earlier : (f : RowOfLabel goal (suc n) least xs rest i) (j : ℕ) (d : Label Profile) → j < suc f.place → (get_or (x ∷ xs) j d).arrival.junction ≡ goal → NotBelow (least_before least rest i) (need_of (get_or (x ∷ xs) j d))
        earlier f zero d k e = not_below_the_row_before least rest i (need_of x) h (λ j k. row_is_below goal (suc n) least xs j k) (without_a_row_not_below goal least x p e)
        earlier f (suc j) d k e = f.earlier_need_no_less j d (omega arith) e

-- a charge b that meets the need of a label at the goal has a row
pub record HasRow (m : ℕ) (least : Option ℕ) (rows : List Row) (b i : ℕ) : Type 0 where
  pub is_a_row : i < length rows
  pub from_its_need : (get_or rows i no_row).need ≤ b
  pub below_the_row_before : Under m (least_before least rows i) b

charge_that_meets_a_need_has_a_row : (m goal n : ℕ) (least : Option ℕ) (xs : List (Label Profile)) (k b : ℕ) (d : Label Profile) → k < length xs → (get_or xs k d).arrival.junction ≡ goal → need_of (get_or xs k d) ≤ b → Under m least b → (i : ℕ) × HasRow m least (rows_from goal n least xs) b i
charge_that_meets_a_need_has_a_row m goal n least [] k b d h e l u = absurd (omega arith)
charge_that_meets_a_need_has_a_row m goal n least (x ∷ xs) k b d h e l u = go (gets_row goal least x) refl k h e l (cases_lt b (need_of x)) (λ o j h e l u. charge_that_meets_a_need_has_a_row m goal (suc n) o xs j b d h e l u)
  where
    go : (t : Bool) → gets_row goal least x ≡ t → (k : ℕ) → k < length (x ∷ xs) → (get_or (x ∷ xs) k d).arrival.junction ≡ goal → need_of (get_or (x ∷ xs) k d) ≤ b → (b < need_of x) ⊎ (need_of x ≤ b) → ((o : Option ℕ) (j : ℕ) → j < length xs → (get_or xs j d).arrival.junction ≡ goal → need_of (get_or xs j d) ≤ b → Under m o b → (i : ℕ) × HasRow m o (rows_from goal (suc n) o xs) b i) → (i : ℕ) × HasRow m least (rows_with_first t goal n least x xs) b i
    go true p k h e l (inr q) more = (0, record { is_a_row = omega arith; from_its_need = q; below_the_row_before = u })
    go true p zero h e l (inl q) more = absurd (omega arith)
    go true p (suc k) h e l (inl q) more =
        let (i, f) = more (Some (need_of x)) k (omega arith) e l q in
        (suc i, record { is_a_row = omega (arith, f.is_a_row); from_its_need = f.from_its_need; below_the_row_before = subst (λ (o : Option ℕ). Under m o b) (least_before_with_first least (row_of n x) _ i) f.below_the_row_before })
    go false p zero h e l q more = absurd (under_is_not_above m least (need_of x) b u (without_a_row_not_below goal least x p e) l)
    go false p (suc k) h e l q more = more least k (omega arith) e l u

module _ (goal : ℕ) (listed : List (Label Profile)) where
  pub charge_that_meets_a_need_is_covered : (m n b : ℕ) (d : Label Profile) → n < length listed → (get_or listed n d).arrival.junction ≡ goal → need_of (get_or listed n d) ≤ b → b ≤ m → (i : ℕ) × Covers m (chart goal listed) i b
  charge_that_meets_a_need_is_covered m n b d h e l u =
      let (i, r) = charge_that_meets_a_need_has_a_row m goal 0 None listed n b d h e l u in
      (i, record { is_a_row = r.is_a_row; from_its_need = r.from_its_need; below_the_row_before = below_the_row_before m (chart goal listed) i b r.below_the_row_before })

  next_row_needs_less : (i : ℕ) → suc i < length (chart goal listed) → (get_or (chart goal listed) (suc i) no_row).need < (get_or (chart goal listed) i no_row).need
  next_row_needs_less i h = ltb-true _ _ (row_is_below_the_row_before goal 0 None listed (suc i) h)

  pub later_rows_need_less : (i j : ℕ) → i < j → j < length (chart goal listed) → (get_or (chart goal listed) j no_row).need < (get_or (chart goal listed) i no_row).need
  later_rows_need_less i zero l h = absurd (omega arith)
  later_rows_need_less i (suc j) l h = go (cases_lt i j) (λ k. later_rows_need_less i j k (omega arith))
    where
      go : (i < j) ⊎ (j ≤ i) → (i < j → (get_or (chart goal listed) j no_row).need < (get_or (chart goal listed) i no_row).need) → (get_or (chart goal listed) (suc j) no_row).need < (get_or (chart goal listed) i no_row).need
      go (inl k) more = let p = more k in omega (arith, next_row_needs_less j h)
      go (inr k) more = let e : i ≡ j = omega arith in subst (λ (n : ℕ). (get_or (chart goal listed) (suc j) no_row).need < (get_or (chart goal listed) n no_row).need) (sym e) (next_row_needs_less j h)

  not_covered_by_a_later_row : (m i j b : ℕ) → Covers m (chart goal listed) i b → Covers m (chart goal listed) j b → i < j → ⊥
  not_covered_by_a_later_row m i zero b c d l = omega arith
  not_covered_by_a_later_row m i (suc j) b c d l = go (cases_lt i j)
    where
      go : (i < j) ⊎ (j ≤ i) → ⊥
      go (inl k) = omega (arith, later_rows_need_less i j k (omega (arith, d.is_a_row)), c.from_its_need, d.below_the_row_before)
      go (inr k) = let e : i ≡ j = omega arith in omega (arith, ap (λ (n : ℕ). (get_or (chart goal listed) n no_row).need) e, c.from_its_need, d.below_the_row_before)

  pub charge_is_covered_by_one_row : (m i j b : ℕ) → Covers m (chart goal listed) i b → Covers m (chart goal listed) j b → i ≡ j
  charge_is_covered_by_one_row m i j b c d = go (cases_order i j)
    where
      go : (i ≡ j) ⊎ ((i < j) ⊎ (j < i)) → i ≡ j
      go (inl e) = e
      go (inr (inl l)) = absurd (not_covered_by_a_later_row m i j b c d l)
      go (inr (inr l)) = absurd (not_covered_by_a_later_row m j i b d c l)

  pub its_label : (i : ℕ) → i < length (chart goal listed) → RowOfLabel goal 0 None listed (chart goal listed) i
  its_label i h = row_is_of_a_label goal 0 None listed i h

  pub its_number : (i : ℕ) (h : i < length (chart goal listed)) → (get_or (chart goal listed) i no_row).label ≡ (its_label i h).place
  its_number i h = ap (λ (r : Row). r.label) ((its_label i h).row no_label) ∙ omega arith

  row_tells_its_label : (i : ℕ) (d : Label Profile) → i < length (chart goal listed) → get_or (chart goal listed) i no_row ≡ row_of (get_or (chart goal listed) i no_row).label (get_or listed (get_or (chart goal listed) i no_row).label d)
  row_tells_its_label i d h = (its_label i h).row d ∙ λ k. row_of (same k) (get_or listed (sym (its_number i h) k) d)
    where
      same : 0 + (its_label i h).place ≡ (get_or (chart goal listed) i no_row).label
      same = omega (arith, its_number i h)

  its_label_needs_less : (i : ℕ) (h : i < length (chart goal listed)) → NeedsLessThanAllEarlier goal listed (its_label i h).place
  its_label_needs_less i h = record {
    is_listed = (its_label i h).is_listed;
    at_goal = (its_label i h).at_goal;
    needs_less = λ j d l e. let p = below_is_less_than_what_is_not_below (get_or (chart goal listed) i no_row).need (need_of (get_or listed j d)) (least_before None (chart goal listed) i) (row_is_below_the_row_before goal 0 None listed i h) ((its_label i h).earlier_need_no_less j d l e) in omega (arith, p, ap (λ (r : Row). r.need) ((its_label i h).row d));
  }

  label_that_needs_less_has_a_row : (n : ℕ) → NeedsLessThanAllEarlier goal listed n → (i : ℕ) × (i < length (chart goal listed)) × ((get_or (chart goal listed) i no_row).label ≡ n)
  label_that_needs_less_has_a_row n lo =
      let b : ℕ = need_of (get_or listed n no_label) in
      let (i, f) = charge_that_meets_a_need_has_a_row b goal 0 None listed n b no_label lo.is_listed (lo.at_goal no_label) (omega arith) (omega arith) in
      (i, f.is_a_row, go i f (cases_order n (its_label i f.is_a_row).place))
    where
      go : (i : ℕ) (f : HasRow (need_of (get_or listed n no_label)) None (chart goal listed) (need_of (get_or listed n no_label)) i) → (n ≡ (its_label i f.is_a_row).place) ⊎ ((n < (its_label i f.is_a_row).place) ⊎ ((its_label i f.is_a_row).place < n)) → (get_or (chart goal listed) i no_row).label ≡ n
      go i f (inl e) = its_number i f.is_a_row ∙ sym e
      go i f (inr (inl l)) = absurd (under_is_not_above _ (least_before None (chart goal listed) i) (need_of (get_or listed n no_label)) (need_of (get_or listed n no_label)) f.below_the_row_before ((its_label i f.is_a_row).earlier_need_no_less n no_label l (lo.at_goal no_label)) (omega arith))
      go i f (inr (inr l)) = absurd (omega (arith, lo.needs_less (its_label i f.is_a_row).place no_label l ((its_label i f.is_a_row).at_goal no_label), ap (λ (r : Row). r.need) ((its_label i f.is_a_row).row no_label), f.from_its_need))

  rows_are_in_the_labels_order : (i j : ℕ) → i < j → j < length (chart goal listed) → (get_or (chart goal listed) i no_row).label < (get_or (chart goal listed) j no_row).label
  rows_are_in_the_labels_order i j l h = go (cases_order (its_label i k).place (its_label j h).place)
    where
      k : i < length (chart goal listed)
      k = omega arith

      go : ((its_label i k).place ≡ (its_label j h).place) ⊎ (((its_label i k).place < (its_label j h).place) ⊎ ((its_label j h).place < (its_label i k).place)) → (get_or (chart goal listed) i no_row).label < (get_or (chart goal listed) j no_row).label
      go (inl e) = absurd (omega (arith, later_rows_need_less i j l h, ap (λ (r : Row). r.need) ((its_label i k).row no_label), ap (λ (r : Row). r.need) ((its_label j h).row no_label), ap (λ (n : ℕ). need_of (get_or listed n no_label)) e))
      go (inr (inl e)) = omega (arith, its_number i k, its_number j h)
      go (inr (inr e)) = absurd (omega (arith, later_rows_need_less i j l h, (its_label_needs_less i k).needs_less (its_label j h).place no_label e ((its_label j h).at_goal no_label), ap (λ (r : Row). r.need) ((its_label i k).row no_label), ap (λ (r : Row). r.need) ((its_label j h).row no_label)))

  pub chart_is_a_chart : IsChart goal listed (chart goal listed)
  chart_is_a_chart = record {
    each_label_of_a_row_needs_less_than_all_earlier = λ i h. subst (λ (n : ℕ). NeedsLessThanAllEarlier goal listed n) (sym (its_number i h)) (its_label_needs_less i h);
    each_row_tells_its_label = row_tells_its_label;
    each_label_that_needs_less_has_a_row = label_that_needs_less_has_a_row;
    in_the_labels_order = rows_are_in_the_labels_order;
  }
