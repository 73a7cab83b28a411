-- What advances of the worked query say, over tables of five labels and of four.
use Rattle.std.proofs.Common.{◌≡◌, ℕ, zero, suc, ◌+◌, ◌<◌, ◌≤◌, ◌⊎◌, List, length, get_or, take, sym, refl, ap, ◌∙◌, subst, inl, inr, arith}
use lib.ListN.{length-map}
use Rattle.std.specs.List.{ContainsAt as Has}
use Rattle.std.proofs.ByRecursion.{has_get_or}
use Rattle.std.proofs.lemmas.List.{get_or-map, get_or-take, length-take-le}
use Rattle.std.proofs.lemmas.Bool.{cases_lt}
use Rattle.loads.specs.declared.charge.Charge.{Charge}
use Rattle.loads.specs.Charge.{charges}
use Rattle.front.specs.declared.arrival.Arrival.{Arrival}
use Rattle.front.specs.declared.label.Label.{Label}
use Rattle.front.specs.Front.{FrontBegins}
use Rattle.front.specs.Legs.{Stored}
use Rattle.front.specs.Labels.{arrivals}
use Rattle.front.proofs.Labels.{stored_get_or}
use Rattle.front.proofs.OneBeginning.{beginnings_agree, one_beginning_of_each_length, no_beginning_is_longer_than_the_front, one_front}
use Rattle.promises.specs.declared.standing.Progress.{Progress}
use Rattle.promises.specs.declared.standing.Standing.{Standing}
use Rattle.promises.specs.declared.standing.Standing.TheVariants.{Paused, Arrived, Ended, Full}
use Rattle.promises.specs.Advance.{Listed, EveryUnbeatenListed, SomeUnbeatenUnlisted, NoneAt, LabelAt, StandingSays, Advanced, AdvancedFor}
use Rattle.promises.proofs.Accounts.{advance_accepted}
use Rattle.worked.specs.WorkedMaps.{worked_rows}
use Rattle.worked.specs.WorkedQuery.{charged, worked_query, worked_front, progress, AdvanceAnswers}
use Rattle.worked.proofs.WorkedQuery.{label, worked_query_is_valid, front_of_the_worked_query}

arrivals_as_many : (n : ℕ) (ls : List (Label Charge)) → n ≤ length ls → length (arrivals (take n ls)) ≡ n
arrivals_as_many n ls h = length-map (take n ls) (λ (x : Label Charge). x.arrival) ∙ length-take-le n ls h

module _ (ls : List (Label Charge)) (b : ℕ) (within : b ≤ length ls) (begins : FrontBegins worked_query (arrivals (take b ls))) where
  at_most_five : b ≤ 5
  at_most_five = let h : length (arrivals (take b ls)) ≤ 5 = no_beginning_is_longer_than_the_front worked_query worked_query_is_valid (arrivals (take b ls)) worked_front begins front_of_the_worked_query in omega (arith, h, arrivals_as_many b ls within)

  arrival_is : (i : ℕ) (d : Label Charge) → i < b → (get_or ls i d).arrival ≡ get_or worked_front i d.arrival
  arrival_is i d h =
      ap (λ (x : Label Charge). x.arrival) (sym (get_or-take b ls i d h))
      ∙ sym (get_or-map (λ (x : Label Charge). x.arrival) (take b ls) i d d.arrival (omega (arith, h, length-take-le b ls within)))
      ∙ beginnings_agree worked_query worked_query_is_valid (arrivals (take b ls)) worked_front begins front_of_the_worked_query.begins i d.arrival (omega (arith, h, arrivals_as_many b ls within)) (omega (arith, h, at_most_five))

  five_are_all : 5 ≤ b → EveryUnbeatenListed worked_query ls b
  five_are_all h a u = subst (λ (xs : List (Arrival Charge)). Has xs a) (sym same) (front_of_the_worked_query.all a u)
    where
      same : arrivals (take b ls) ≡ worked_front
      same = one_beginning_of_each_length worked_query worked_query_is_valid (arrivals (take b ls)) worked_front begins front_of_the_worked_query.begins (omega (arith, h, at_most_five, arrivals_as_many b ls within))

  all_are_five : EveryUnbeatenListed worked_query ls b → 5 ≤ b
  all_are_five every =
      let e : arrivals (take b ls) ≡ worked_front = one_front worked_query worked_query_is_valid (arrivals (take b ls)) worked_front (record { begins = begins; all = every }) front_of_the_worked_query in
      let h : length (arrivals (take b ls)) ≡ 5 = ap length e in
      omega (arith, h, arrivals_as_many b ls within)

  -- some label, to read past the table's end
  any_label : Label Charge
  any_label = label (charged 0 0 0) 0 0

  stored : (i : ℕ) → i < b → Stored ls i (get_or ls i any_label)
  stored i h = stored_get_or ls i any_label (omega (arith, h, within))

  junction_is : (i : ℕ) → i < b → (get_or ls i any_label).arrival.junction ≡ (get_or worked_front i any_label.arrival).junction
  junction_is i h = ap (λ (a : Arrival Charge). a.junction) (arrival_is i any_label h)

  -- labels 3 and 4 are at the goal, and no others
  only_3_and_4_are_at_the_goal : (n : ℕ) → n < b → LabelAt ls n 3 → (n ≡ 3) ⊎ (n ≡ 4)
  only_3_and_4_are_at_the_goal zero h goal = absurd (let p : (get_or ls 0 any_label).arrival.junction ≡ 0 = junction_is 0 h in omega (arith, p, goal _ (stored 0 h)))
  only_3_and_4_are_at_the_goal (suc zero) h goal = absurd (let p : (get_or ls 1 any_label).arrival.junction ≡ 2 = junction_is 1 h in omega (arith, p, goal _ (stored 1 h)))
  only_3_and_4_are_at_the_goal (suc (suc zero)) h goal = absurd (let p : (get_or ls 2 any_label).arrival.junction ≡ 1 = junction_is 2 h in omega (arith, p, goal _ (stored 2 h)))
  only_3_and_4_are_at_the_goal (suc (suc (suc zero))) h goal = inl refl
  only_3_and_4_are_at_the_goal (suc (suc (suc (suc zero)))) h goal = inr refl
  only_3_and_4_are_at_the_goal (suc (suc (suc (suc (suc n))))) h goal = absurd (omega (arith, h, at_most_five))

  none_up_to_3 : (a n : ℕ) → a ≤ 3 → n ≤ b → NoneAt ls a n 3 → n ≤ 3
  none_up_to_3 a n l h none = go (cases_lt 3 n)
    where
      go : (3 < n) ⊎ (n ≤ 3) → n ≤ 3
      go (inl k) = absurd (none 3 _ l k (stored 3 (omega arith)) (junction_is 3 (omega arith)))
      go (inr k) = k

  none_up_to_4 : (n : ℕ) → n ≤ b → NoneAt ls 4 n 3 → n ≤ 4
  none_up_to_4 n h none = go (cases_lt 4 n)
    where
      go : (4 < n) ⊎ (n ≤ 4) → n ≤ 4
      go (inl k) = absurd (none 4 _ (omega arith) k (stored 4 (omega arith)) (junction_is 4 (omega arith)))
      go (inr k) = k

  module _ (budget : ℕ) (enough : 5 ≤ budget) where
    arrives_with_label_3 : 4 ≤ length ls → (answer : Standing) → StandingSays worked_query budget ls 1 b answer → (answer ≡ Arrived 3) × (b ≡ 4)
    arrives_with_label_3 room Paused (e, none) = absurd (omega (arith, e, at_most_five))
    arrives_with_label_3 room (Arrived n) (l, e, none, goal) = go (only_3_and_4_are_at_the_goal n (omega (arith, e)) goal)
      where
        go : (n ≡ 3) ⊎ (n ≡ 4) → (Arrived n ≡ Arrived 3) × (b ≡ 4)
        go (inl p) = (ap Arrived p, omega (arith, e, p))
        go (inr p) = absurd (omega (arith, p, none_up_to_3 1 n (omega arith) (omega (arith, e)) none))
    arrives_with_label_3 room Ended (l, none, every) = absurd (omega (arith, none_up_to_3 1 b (omega arith) (omega arith) none, all_are_five every))
    arrives_with_label_3 room Full (l, none, e, unlisted) = absurd (omega (arith, e, none_up_to_3 1 b (omega arith) (omega arith) none))

    arrives_with_label_4 : length ls ≡ 5 → (answer : Standing) → StandingSays worked_query budget ls 4 b answer → (answer ≡ Arrived 4) × (b ≡ 5)
    arrives_with_label_4 room Paused (e, none) = absurd (omega (arith, e, at_most_five))
    arrives_with_label_4 room (Arrived n) (l, e, none, goal) = go (only_3_and_4_are_at_the_goal n (omega (arith, e)) goal)
      where
        go : (n ≡ 3) ⊎ (n ≡ 4) → (Arrived n ≡ Arrived 4) × (b ≡ 5)
        go (inl p) = absurd (omega (arith, p, l))
        go (inr p) = (ap Arrived p, omega (arith, e, p))
    arrives_with_label_4 room Ended (l, none, every) = absurd (omega (arith, none_up_to_4 b (omega arith) none, all_are_five every))
    arrives_with_label_4 room Full (l, none, e, unlisted) = absurd (omega (arith, e, room, none_up_to_4 b (omega arith) none))

    ends : length ls ≡ 5 → (answer : Standing) → StandingSays worked_query budget ls 5 b answer → (answer ≡ Ended) × (b ≡ 5)
    ends room Paused (e, none) = absurd (omega (arith, e, at_most_five))
    ends room (Arrived n) (l, e, none, goal) = absurd (omega (arith, l, e, at_most_five))
    ends room Ended (l, none, every) = (refl, omega (arith, at_most_five, all_are_five every))
    ends room Full (l, none, e, (a, u, unlisted)) = absurd (unlisted (five_are_all (omega (arith, e, room)) a u))

    is_full : length ls ≡ 4 → (answer : Standing) → StandingSays worked_query budget ls 4 b answer → (answer ≡ Full) × (b ≡ 4)
    is_full room Paused (e, none) = absurd (omega (arith, e, at_most_five))
    is_full room (Arrived n) (l, e, none, goal) = absurd (omega (arith, l, e, room, within))
    is_full room Ended (l, none, every) = absurd (omega (arith, room, within, all_are_five every))
    is_full room Full (l, none, e, unlisted) = (refl, omega (arith, e, room))

equal_parts_equal_progress : (p : Progress) (standing : Standing) (now all : ℕ) → p.standing ≡ standing → p.listed_now ≡ now → p.listed_in_all ≡ all → p ≡ progress standing now all
equal_parts_equal_progress p standing now all e f g = λ i. progress (e i) (f i) (g i)

-- an accepted advance of a search that stands for the worked query, with so many labels of so many listed, that lists so many more
module _ (room listed now : ℕ) (answer : Standing)
    (says : (ls : List (Label Charge)) (b : ℕ) → length ls ≡ room → b ≤ length ls → FrontBegins worked_query (arrivals (take b ls)) → (budget : ℕ) → 5 ≤ budget → (a : Standing) → StandingSays worked_query budget ls listed b a → (a ≡ answer) × (b ≡ listed + now)) where
  advance_answers : AdvanceAnswers room listed (progress answer now (listed + now))
  advance_answers budget t s s' p long begun enough stands promise =
      let a : Advanced worked_rows (charges 1000) budget t s s' p = advance_accepted worked_rows (charges 1000) budget t s s' p promise in
      let f : AdvancedFor worked_query budget t s s' p = a.for_its_query worked_query refl refl stands in
      let (e, count) = says t.labels_after s'.listed (a.labels_keep_their_length ∙ long) a.lists_within_the_table
      (subst (λ (n : ℕ). FrontBegins worked_query (arrivals (take n t.labels_after))) a.counts_all_listed f.listed_labels_begin_the_front)
      budget enough p.standing
      (subst (λ (n : ℕ). StandingSays worked_query budget t.labels_after n s'.listed p.standing) begun f.standing_says) in
      equal_parts_equal_progress p answer now (listed + now) e (omega (arith, begun, count, a.counts_those_listed_now)) (a.counts_all_listed ∙ count)

pub five_labels_list_every_unbeaten_arrival : (ls : List (Label Charge)) → length ls ≡ 5 → FrontBegins worked_query (arrivals (take 5 ls)) → EveryUnbeatenListed worked_query ls 5
five_labels_list_every_unbeaten_arrival ls e begins = five_are_all ls 5 (omega arith) begins (omega arith)

pub first_advance_over_five_labels_arrives_with_label_3 : AdvanceAnswers 5 1 (progress (Arrived 3) 3 4)
first_advance_over_five_labels_arrives_with_label_3 = advance_answers 5 1 3 (Arrived 3) (λ ls b e within begins budget enough. arrives_with_label_3 ls b within begins budget enough (omega arith))

pub next_advance_over_five_labels_arrives_with_label_4 : AdvanceAnswers 5 4 (progress (Arrived 4) 1 5)
next_advance_over_five_labels_arrives_with_label_4 = advance_answers 5 4 1 (Arrived 4) (λ ls b e within begins budget enough. arrives_with_label_4 ls b within begins budget enough e)

pub last_advance_over_five_labels_ends : AdvanceAnswers 5 5 (progress Ended 0 5)
last_advance_over_five_labels_ends = advance_answers 5 5 0 Ended (λ ls b e within begins budget enough. ends ls b within begins budget enough e)

pub four_labels_leave_an_unbeaten_arrival_unlisted : (ls : List (Label Charge)) → length ls ≡ 4 → FrontBegins worked_query (arrivals (take 4 ls)) → SomeUnbeatenUnlisted worked_query ls 4
four_labels_leave_an_unbeaten_arrival_unlisted ls e begins = (charged 110 300 3, front_of_the_worked_query.begins.unbeaten (charged 110 300 3) (has_get_or worked_front 4 (charged 0 0 0) (omega arith)), unlisted)
  where
    different : (i : ℕ) → i < 4 → get_or worked_front i (charged 0 0 0) ≡ charged 110 300 3 → ⊥
    different zero h p = let t : ◌≡◌ {A = ℕ} 0 110 = ap (λ (a : Arrival Charge). a.time) p in omega arith
    different (suc zero) h p = let t : ◌≡◌ {A = ℕ} 40 110 = ap (λ (a : Arrival Charge). a.time) p in omega arith
    different (suc (suc zero)) h p = let t : ◌≡◌ {A = ℕ} 60 110 = ap (λ (a : Arrival Charge). a.time) p in omega arith
    different (suc (suc (suc zero))) h p = let t : ◌≡◌ {A = ℕ} 70 110 = ap (λ (a : Arrival Charge). a.time) p in omega arith
    different (suc (suc (suc (suc i)))) h p = omega arith

    unlisted : Listed ls 4 (charged 110 300 3) → ⊥
    unlisted (i, h, p) =
        let l : i < 4 = omega (arith, h, arrivals_as_many 4 ls (omega arith)) in
        different i l (sym (beginnings_agree worked_query worked_query_is_valid (arrivals (take 4 ls)) worked_front begins front_of_the_worked_query.begins i (charged 0 0 0) h (omega arith)) ∙ p (charged 0 0 0))

pub last_of_four_labels_is_at_the_goal_after_70_seconds : (ls : List (Label Charge)) (d : Label Charge) → length ls ≡ 4 → FrontBegins worked_query (arrivals (take 4 ls)) → (get_or ls 3 d).arrival ≡ charged 70 50 3
last_of_four_labels_is_at_the_goal_after_70_seconds ls d e begins = arrival_is ls 4 (omega arith) begins 3 d (omega arith)

pub first_advance_over_four_labels_arrives_with_label_3 : AdvanceAnswers 4 1 (progress (Arrived 3) 3 4)
first_advance_over_four_labels_arrives_with_label_3 = advance_answers 4 1 3 (Arrived 3) (λ ls b e within begins budget enough. arrives_with_label_3 ls b within begins budget enough (omega arith))

pub next_advance_over_four_labels_is_full : AdvanceAnswers 4 4 (progress Full 0 4)
next_advance_over_four_labels_is_full = advance_answers 4 4 0 Full (λ ls b e within begins budget enough. is_full ls b within begins budget enough e)
