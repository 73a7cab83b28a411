-- What one changed entry makes of the shut places.
use Rattle.std.proofs.Common.{◌≡◌, ℕ, suc, ◌<◌, Bool, true, false, cond, not, ◌&&◌, eqb, ◌⊎◌, List, [], ◌∷◌, length, get_or, set, replicate, is_some, Some, None, sym, refl, ap, ◌∙◌, subst, inl, inr, arith}
use Rattle.std.specs.List.{position}
use Rattle.std.proofs.lemmas.List.{length-set, get_or-set_same, get_or-set_other, get_or-replicate}
use Rattle.std.proofs.lemmas.List.Folds.{list_any_at}
use Rattle.maps.proofs.Tested.{fails_where_none, fails_where_not_any, not_any_where_all_fail, any_set_new, any_set_alike}
use Rattle.std.proofs.lemmas.List.Quantifiers.{position-Some}
use Rattle.std.proofs.lemmas.List.Sums.{sum_by-cons, sum_by-set, count_by-le-length}
use Rattle.std.proofs.lemmas.Bool.{cases_eq, and_parts, eqb-true, eq-eqb, ne_eqb, true≢false}
use Rattle.maps.specs.Entries.{Entry, holding, is_like, holds, shut_at, shut_count, NoneTwice}
use Rattle.maps.specs.Rows.{place_refusal}
use Rattle.refusals.specs.declared.refusal.Refusal.TheVariants.{PlaceNotShut, SixtyFourShut}
use Rattle.maps.specs.Closures.{shut_refusal, reopen_refusal, same_place, OneMoreShut, OneLessShut}

-- no place is shut by two entries, said of each place and each two entries
abbrev Once : List Entry → Type 0
Once es = (v k i j : ℕ) → i < 64 → j < 64 → holds v k (get_or es i None) ≡ true → holds v k (get_or es j None) ≡ true → i ≡ j

once_each : (es : List Entry) → NoneTwice es → Once es
once_each es once v k i j li lj hi hj = once (record { junction = v; place = k; first = i; second = j; first_inside = li; second_inside = lj; first_holds = hi; second_holds = hj })

none_twice : (es : List Entry) → Once es → NoneTwice es
none_twice es each both = each both.junction both.place both.first both.second both.first_inside both.second_inside both.first_holds both.second_holds

-- an entry like the one wanted is that one
is_the_one : (w e : Entry) → is_like w e ≡ true → e ≡ w
is_the_one None None h = refl
is_the_one None (Some e) h = absurd (true≢false (sym h))
is_the_one (Some s) None h = absurd (true≢false (sym h))
is_the_one (Some s) (Some e) h =
    let p = and_parts (eqb e.junction s.junction) _ h in
    let a : e.junction ≡ s.junction = eqb-true _ _ p.0 in
    let b : e.place ≡ s.place = eqb-true _ _ p.1 in
    λ i. holding (a i) (b i)

module _ (es : List Entry) (v k i : ℕ) (size : length es ≡ 64) where
  module _ (vacant : position (is_like None) es ≡ Some i) where
    inside : i < length es
    inside = (position-Some _ es i None vacant).0

    was_free : get_or es i None ≡ None
    was_free = is_the_one None _ (position-Some _ es i None vacant).1

    now_holds : get_or (set es i (holding v k)) i None ≡ holding v k
    now_holds = get_or-set_same es i (holding v k) None inside

    pub one_more_shut : OneMoreShut v k es (set es i (holding v k))
    one_more_shut = record {
      shut = λ v' k'. any_set_new (holds v' k') es i (holding v k) None inside (ap (holds v' k') was_free);
      count = omega (arith, rw was_free at (sum_by-set (λ e. cond (is_some e) 1 0) es i (holding v k) None inside));
    }

    still_once_shut : Once es → shut_at es v k ≡ false → Once (set es i (holding v k))
    still_once_shut once nowhere v' k' a b la lb ha hb = by (cases_eq a i) (cases_eq b i)
      where
        old : (j : ℕ) → (j ≡ i → ⊥) → holds v' k' (get_or (set es i (holding v k)) j None) ≡ true → holds v' k' (get_or es j None) ≡ true
        old j d h = ap (holds v' k') (sym (get_or-set_other es i j (holding v k) None d)) ∙ h

        clash : (j : ℕ) → j < 64 → (j ≡ i → ⊥) → holds v' k' (get_or (set es i (holding v k)) j None) ≡ true → holds v' k' (get_or (set es i (holding v k)) i None) ≡ true → ⊥
        clash j l d hj hi =
            let same : holding v k ≡ holding v' k' = is_the_one _ _ (ap (holds v' k') (sym now_holds) ∙ hi) in
            true≢false (sym (old j d hj) ∙ subst (λ w. is_like w (get_or es j None) ≡ false) same (fails_where_not_any (holds v k) es j None nowhere (omega arith)))

        by : (a ≡ i) ⊎ (a ≡ i → ⊥) → (b ≡ i) ⊎ (b ≡ i → ⊥) → a ≡ b
        by (inl p) (inl q) = p ∙ sym q
        by (inl p) (inr q) = absurd (clash b lb q hb (subst (λ x. holds v' k' (get_or (set es i (holding v k)) x None) ≡ true) p ha))
        by (inr p) (inl q) = absurd (clash a la p ha (subst (λ x. holds v' k' (get_or (set es i (holding v k)) x None) ≡ true) q hb))
        by (inr p) (inr q) = once v' k' a b la lb (old a p ha) (old b q hb)

    pub still_none_twice_shut : NoneTwice es → shut_at es v k ≡ false → NoneTwice (set es i (holding v k))
    still_none_twice_shut once nowhere = none_twice _ (still_once_shut (once_each es once) nowhere)

  module _ (once : Once es) (held : position (holds v k) es ≡ Some i) where
    within : i < length es
    within = (position-Some _ es i None held).0

    did_hold : get_or es i None ≡ holding v k
    did_hold = is_the_one _ _ (position-Some _ es i None held).1

    now_free : get_or (set es i None) i None ≡ None
    now_free = get_or-set_same es i None None within

    -- what an entry of the table holds once that one is free, it held before, and is another
    old : (v' k' j : ℕ) → holds v' k' (get_or (set es i None) j None) ≡ true → (j ≡ i) ⊎ (j ≡ i → ⊥) → holds v' k' (get_or es j None) ≡ true × (j ≡ i → ⊥)
    old v' k' j h (inl s) = absurd (true≢false (sym h ∙ ap (holds v' k') (ap (λ x. get_or (set es i None) x None) s ∙ now_free)))
    old v' k' j h (inr d) = (ap (holds v' k') (sym (get_or-set_other es i j None None d)) ∙ h, d)

    still_inside : (j : ℕ) → j < length (set es i None) → j < 64
    still_inside j l = let same : length (set es i None) ≡ length es = length-set es i None in omega arith

    gone : (v' k' : ℕ) → same_place v k v' k' ≡ true → (j : ℕ) → j < length (set es i None) → holds v' k' (get_or (set es i None) j None) ≡ false
    gone v' k' same j l = by (holds v' k' (get_or (set es i None) j None)) refl
      where
        by : (t : Bool) → holds v' k' (get_or (set es i None) j None) ≡ t → holds v' k' (get_or (set es i None) j None) ≡ false
        by true h = let o = old v' k' j h (cases_eq j i) in absurd (o.1 (once v' k' j i (still_inside j l) (omega (arith, within)) o.0 (ap (holds v' k') did_hold ∙ same)))
        by false h = h

    one_less : OneLessShut v k es (set es i None)
    one_less = record { shut = λ v' k'. by v' k' (same_place v k v' k') refl; count = omega (arith, rw did_hold at (sum_by-set (λ e. cond (is_some e) 1 0) es i None None within)) }
      where
        by : (v' k' : ℕ) (t : Bool) → same_place v k v' k' ≡ t → shut_at (set es i None) v' k' ≡ (not t && shut_at es v' k')
        by v' k' true p = not_any_where_all_fail (holds v' k') _ None (gone v' k' p)
        by v' k' false p = any_set_alike (holds v' k') es i None None within (sym (ap (holds v' k') did_hold ∙ p))

    still_once_reopened : Once (set es i None)
    still_once_reopened v' k' a b la lb ha hb = once v' k' a b la lb (old v' k' a ha (cases_eq a i)).0 (old v' k' b hb (cases_eq b i)).0

  pub one_less_shut : NoneTwice es → position (holds v k) es ≡ Some i → OneLessShut v k es (set es i None)
  one_less_shut once = one_less (once_each es once)

  pub still_none_twice_reopened : NoneTwice es → position (holds v k) es ≡ Some i → NoneTwice (set es i None)
  still_none_twice_reopened once held = none_twice _ (still_once_reopened (once_each es once) held)

-- a table of free entries shuts nothing
pub none_twice_at_first : NoneTwice (replicate 64 None)
none_twice_at_first both = absurd (true≢false (sym both.first_holds ∙ ap (holds both.junction both.place) (get_or-replicate 64 both.first None None both.first_inside)))

-- all entries are used exactly when sixty-four places are shut
pub sixty_four_shut : (es : List Entry) → length es ≡ 64 → position (is_like None) es ≡ None → eqb (shut_count es) 64 ≡ true
sixty_four_shut es size none = eq-eqb (shut_count es) 64 (all es (λ i l. fails_where_none (is_like None) es i None none l) ∙ size)
  where
    all : (xs : List Entry) → ((i : ℕ) → i < length xs → is_like None (get_or xs i None) ≡ false) → shut_count xs ≡ length xs
    all [] h = refl
    all (None ∷ xs) h = absurd (true≢false (h 0 (omega arith)))
    all (Some e ∷ xs) h = omega (arith, sum_by-cons (λ e. cond (is_some e) 1 0) (Some e) xs, all xs (λ i l. h (suc i) (omega arith)))

pub fewer_shut : (es : List Entry) (i : ℕ) → length es ≡ 64 → position (is_like None) es ≡ Some i → eqb (shut_count es) 64 ≡ false
fewer_shut es i size some =
    let p = position-Some _ es i None some in
    let free : get_or es i None ≡ None = is_the_one None _ p.1 in
    -- with that entry used too there would be one more, and never more than the table is long
    let more = rw free at (sum_by-set (λ e. cond (is_some e) 1 0) es i (holding 0 0) None p.0) in
    ne_eqb (shut_count es) 64 (λ e. omega (arith, more, count_by-le-length is_some (set es i (holding 0 0)), length-set es i (holding 0 0)))

-- what a call answers, of a place of the map
module _ (n v k : ℕ) (es : List Entry) (asked : None ≡ place_refusal n v k) where
  pub no_entry_left : shut_at es v k ≡ false → eqb (shut_count es) 64 ≡ true → Some SixtyFourShut ≡ shut_refusal n es v k
  no_entry_left not_yet all = rw (← asked, not_yet, all)

  pub shut_is_accepted : shut_at es v k ≡ false → eqb (shut_count es) 64 ≡ false → None ≡ shut_refusal n es v k
  shut_is_accepted not_yet few = rw (← asked, not_yet, few)

  pub no_place_to_reopen : shut_at es v k ≡ false → Some PlaceNotShut ≡ reopen_refusal n es v k
  no_place_to_reopen not_shut = rw (← asked, not_shut)

  pub reopen_is_accepted : shut_at es v k ≡ true → None ≡ reopen_refusal n es v k
  reopen_is_accepted shut = rw (← asked, shut)

-- a place that no entry holds is found nowhere
pub shut_where_found : (es : List Entry) (v k i : ℕ) → position (holds v k) es ≡ Some i → shut_at es v k ≡ true
shut_where_found es v k i found = let p = position-Some _ es i None found in list_any_at (holds v k) es i None p.0 p.1

pub not_shut_where_none : (es : List Entry) (v k : ℕ) → position (holds v k) es ≡ None → shut_at es v k ≡ false
not_shut_where_none es v k none = not_any_where_all_fail (holds v k) es None (λ i l. fails_where_none (holds v k) es i None none l)
