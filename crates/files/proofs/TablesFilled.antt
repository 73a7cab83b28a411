-- The tables of a road file hold its road lines, and pass every check of a map.
use Rattle.std.proofs.Common.{◌≡◌, ℕ, zero, suc, ◌+◌, ◌*◌, ◌/◌, ◌%◌, ◌<◌, ◌≤◌, max, Bool, true, false, cond, ltb, List, [], ◌∷◌, ◌++◌, length, get_or, take, set, ℤ, pos, negsuc, ◌≤ℤ◌, Some, None, Option, sym, refl, ap, ◌∙◌, subst, ⊎_elim, add-one, arith, length-set, get_or-set_other, get_or-set_same}
use lib.Signed.{lt_z}
use Rattle.std.proofs.lemmas.Bool.{cases_eq, cases_lt, cases_Bool, cond-false, cond_both, lt-ltb, le-ltb, eq-eqb, ne_eqb, or_from, not_from_true, ltb-true}
use Rattle.std.proofs.lemmas.Int.{ints}
use Rattle.std.proofs.lemmas.List.{length-replicate, get_or-replicate, length-take-le, get_or-take}
use Rattle.refusals.specs.declared.refusal.Refusal.{Refusal}
use Rattle.refusals.specs.declared.refusal.Refusal.TheVariants.{TableLengthsDisagree, CountAboveTwelve, HeadOffMap, RoadTimeOutOfRange, RoadDrawOutOfRange}
use Rattle.maps.specs.declared.road.Road.{Road}
use Rattle.maps.specs.FirstFailure.{or_else, first_failure}
use Rattle.maps.specs.FirstFailureFound.{first_failure_none, first_failure_more}
use Rattle.maps.specs.Table.{table_place, lengths_fault, count_fault, road_fault, entry_fault}
use Rattle.files.specs.declared.roads.RoadColumn.{RoadColumn}
use Rattle.files.specs.declared.roads.RoadColumn.TheVariants.{From, To, Seconds, WattHours}
use Rattle.files.specs.declared.roads.RoadLine.{RoadLine}
use Rattle.files.specs.Roads.{blank_road}
use Rattle.files.specs.Tables.{Tables, empty_tables, count, with_entry, trimmed}
use Rattle.files.specs.RoadLaw.{leaving, junctions_named, at_place, TablesOf}
use Rattle.files.proofs.RoadInRange.{InRange}
use Rattle.files.proofs.RoadsLeaving.{Each, Entries, junctions_more, grown_long, other_long, each_more, entries_more}

-- a road may stand on a map of n junctions
abbrev pub Fitting : ℕ → RoadLine → Type 0
Fitting n r = (r.to < n) × ((1 ≤ r.seconds) × (r.seconds ≤ 7200)) × ((negsuc 99999 ≤ℤ r.draw) × (r.draw ≤ℤ pos 100000))

-- tables with rows for room junctions hold these roads
pub record Filled (room : ℕ) (t : Tables) (rs : List RoadLine) : Type 0 where
  pub counts_long : length t.counts ≡ room
  pub heads_long : length t.heads ≡ 12 * room
  pub times_long : length t.times ≡ 12 * room
  pub draws_long : length t.draws ≡ 12 * room
  pub named : t.junctions ≡ junctions_named rs
  pub low : t.junctions ≤ room
  pub few : (v : ℕ) → length (leaving v rs) ≤ 12
  pub counted : (v : ℕ) → v < room → get_or t.counts v 0 ≡ length (leaving v rs)
  pub headed : Entries room (λ r. r.to) 0 t.heads rs
  pub timed : Entries room (λ r. r.seconds) 0 t.times rs
  pub drawn : Entries room (λ r. r.draw) (pos 0) t.draws rs
  pub fitting : Each (Fitting t.junctions) rs

pub empty_filled : (room : ℕ) → Filled room (empty_tables room) []
empty_filled room = record {
  counts_long = length-replicate room 0;
  heads_long = length-replicate (12 * room) 0;
  times_long = length-replicate (12 * room) 0;
  draws_long = length-replicate (12 * room) (pos 0);
  named = refl;
  low = omega arith;
  few = λ v. omega arith;
  counted = λ v lt. get_or-replicate room v 0 0 lt;
  headed = λ v k lt kt. absurd (omega arith);
  timed = λ v k lt kt. absurd (omega arith);
  drawn = λ v k lt kt. absurd (omega arith);
  fitting = λ v k kt. absurd (omega arith);
}

-- one road more
pub filled_more : {room : ℕ} {t : Tables} {rs : List RoadLine} → Filled room t rs → (r : RoadLine) → ((c : RoadColumn) → InRange room c r) → count t r < 12 → Filled room (with_entry t r (12 * r.from + count t r)) (rs ++ r ∷ [])
filled_more {room} {t} {rs} h r range free =
    let low_from : r.from < room = range From in
    let low_to : r.to < room = range To in
    let here : count t r ≡ length (leaving r.from rs) = h.counted r.from low_from in
    let m = max (max t.junctions (r.from + 1)) (r.to + 1) in
    let grown : t.junctions ≤ m = omega arith in
    let to_in : r.to < m = omega arith in
    record {
      counts_long = length-set t.counts r.from (count t r + 1) ∙ h.counts_long;
      heads_long = length-set t.heads (12 * r.from + count t r) r.to ∙ h.heads_long;
      times_long = length-set t.times (12 * r.from + count t r) r.seconds ∙ h.times_long;
      draws_long = length-set t.draws (12 * r.from + count t r) r.draw ∙ h.draws_long;
      named = ap (λ n. max (max n (r.from + 1)) (r.to + 1)) h.named ∙ sym (junctions_more rs r);
      low = omega (arith, h.low);
      few = λ v. ⊎_elim
          (λ e. omega (arith, grown_long rs r v e, here ∙ ap (λ u. length (leaving u rs)) e))
          (λ n. omega (arith, other_long rs r v n, h.few v))
          (cases_eq r.from v);
      counted = λ v lt. ⊎_elim
          (λ e. ap (λ u. get_or (set t.counts r.from (count t r + 1)) u 0) (sym e) ∙ get_or-set_same t.counts r.from (count t r + 1) 0 (omega (arith, h.counts_long)) ∙ ap (λ n. n + 1) (here ∙ ap (λ u. length (leaving u rs)) e) ∙ sym (grown_long rs r v e))
          (λ n. get_or-set_other t.counts r.from v (count t r + 1) 0 (λ e. n (sym e)) ∙ h.counted v lt ∙ sym (other_long rs r v n))
          (cases_eq r.from v);
      headed = entries_more room (λ x. x.to) 0 t.heads rs r (count t r) h.heads_long low_from here free h.few h.headed;
      timed = entries_more room (λ x. x.seconds) 0 t.times rs r (count t r) h.times_long low_from here free h.few h.timed;
      drawn = entries_more room (λ x. x.draw) (pos 0) t.draws rs r (count t r) h.draws_long low_from here free h.few h.drawn;
      fitting = each_more rs r (Fitting m) (λ v k kt. let f = h.fitting v k kt in (omega (arith, f.0, grown), f.1, f.2)) (to_in, range Seconds, range WattHours);
    }

-- where every check passes there is no failure
all_pass : {X : Type 0} (f : ℕ → Option X) (n : ℕ) → ((i : ℕ) → i < n → f i ≡ None) → first_failure f n ≡ None
all_pass f zero h = first_failure_none f
all_pass f (suc n) h = sym (ap (first_failure f) (add-one n)) ∙ first_failure_more f n (all_pass f n (λ i l. h i (omega arith))) (h n (omega arith))

passed : (b : Bool) (x : Refusal) (y : Option Refusal) → b ≡ false → y ≡ None → cond b (Some x) y ≡ None
passed b x y e f = cond-false b (Some x) y e ∙ f

no_less : (a b : ℤ) → b ≤ℤ a → lt_z a b ≡ false
no_less a b h = ⊎_elim (λ (e : lt_z a b ≡ true). absurd (omega (arith, ints))) (λ (e : lt_z a b ≡ false). e) (cases_Bool (lt_z a b))

fitting_passes : (n : ℕ) (r : RoadLine) → Fitting n r → road_fault n r.to r.seconds r.draw ≡ None
fitting_passes n r f =
    passed _ HeadOffMap _ (not_from_true _ (lt-ltb _ _ f.0))
    (passed _ RoadTimeOutOfRange _ (or_from _ _ (ne_eqb _ 0 (λ e. omega (arith, f.1.0, e))) (le-ltb _ _ f.1.1))
    (passed _ RoadDrawOutOfRange _ (or_from _ _ (no_less _ _ f.2.0) (no_less _ _ f.2.1)) refl))

abbrev road : ℕ → ℕ → ℤ → Option Road
road h s d = Some (record { head = h; seconds = s; draw = d })

-- the tables cut down to the junctions named
module _ {room : ℕ} {t : Tables} {rs : List RoadLine} (h : Filled room t rs) (most : room ≤ 9600) where
  rows_long : length (trimmed t).counts ≡ t.junctions
  rows_long = length-take-le t.junctions t.counts (omega (arith, h.counts_long, h.low))

  table_long : {X : Type 0} (xs : List X) → length xs ≡ 12 * room → length (take (12 * t.junctions) xs) ≡ 12 * length (trimmed t).counts
  table_long xs e = length-take-le (12 * t.junctions) xs (omega (arith, e, h.low)) ∙ ap (λ m. 12 * m) (sym rows_long)

  trimmed_counted : (v : ℕ) → v < t.junctions → get_or (trimmed t).counts v 0 ≡ length (leaving v rs)
  trimmed_counted v l = get_or-take t.junctions t.counts v 0 l ∙ h.counted v (omega (arith, h.low))

  trimmed_entries : {X : Type 0} (told : RoadLine → X) (d : X) (xs : List X) → Entries room told d xs rs → Entries t.junctions told d (take (12 * t.junctions) xs) rs
  trimmed_entries told d xs e v k l kt = get_or-take (12 * t.junctions) xs (12 * v + k) d (omega (arith, h.few v)) ∙ e v k (omega (arith, h.low)) kt

  lengths_pass : lengths_fault (trimmed t).counts (trimmed t).heads (trimmed t).times (trimmed t).draws ≡ None
  lengths_pass =
      passed _ TableLengthsDisagree None
      (or_from _ _
      (or_from _ _
      (or_from _ _
      (le-ltb 9600 (length (trimmed t).counts) (omega (arith, rows_long, h.low, most)))
      (not_from_true _ (eq-eqb _ _ (table_long t.heads h.heads_long))))
      (not_from_true _ (eq-eqb _ _ (table_long t.times h.times_long))))
      (not_from_true _ (eq-eqb _ _ (table_long t.draws h.draws_long))))
      refl

  count_passes : (v : ℕ) → v < length (trimmed t).counts → count_fault (trimmed t).counts v ≡ None
  count_passes v l = passed _ CountAboveTwelve None (le-ltb 12 _ (omega (arith, trimmed_counted v (omega (arith, rows_long)), h.few v))) refl

  entry_fits : (v k : ℕ) → v < t.junctions → k < length (leaving v rs) → road_fault (length (trimmed t).counts) (get_or (trimmed t).heads (12 * v + k) 0) (get_or (trimmed t).times (12 * v + k) 0) (get_or (trimmed t).draws (12 * v + k) (pos 0)) ≡ None
  entry_fits v k l kt =
      let x = get_or (leaving v rs) k blank_road in
      let i = 12 * v + k in
      ap (λ m. road_fault m (get_or (trimmed t).heads i 0) (get_or (trimmed t).times i 0) (get_or (trimmed t).draws i (pos 0))) rows_long
      ∙ ap (λ y. road_fault t.junctions y (get_or (trimmed t).times i 0) (get_or (trimmed t).draws i (pos 0))) (trimmed_entries (λ r. r.to) 0 t.heads h.headed v k l kt)
      ∙ ap (λ y. road_fault t.junctions x.to y (get_or (trimmed t).draws i (pos 0))) (trimmed_entries (λ r. r.seconds) 0 t.times h.timed v k l kt)
      ∙ ap (λ y. road_fault t.junctions x.to x.seconds y) (trimmed_entries (λ r. r.draw) (pos 0) t.draws h.drawn v k l kt)
      ∙ fitting_passes t.junctions x (h.fitting v k kt)

  entry_passes : (i : ℕ) → i < 12 * length (trimmed t).counts → entry_fault (trimmed t).counts (trimmed t).heads (trimmed t).times (trimmed t).draws i ≡ None
  entry_passes i l =
      let v = i / 12 in
      let k = i % 12 in
      let row : i / 12 < t.junctions = omega (arith, rows_long) in
      let at : 12 * (i / 12) + i % 12 ≡ i = omega arith in
      cond_both (ltb (i % 12) (get_or (trimmed t).counts (i / 12) 0)) _ None (λ o. o ≡ None)
      (λ e. subst (λ j. road_fault (length (trimmed t).counts) (get_or (trimmed t).heads j 0) (get_or (trimmed t).times j 0) (get_or (trimmed t).draws j (pos 0)) ≡ None) at
      (entry_fits v k row (omega (arith, ltb-true _ _ e, trimmed_counted (i / 12) row))))
      (λ _. refl)

  place_held : (v k : ℕ) → v < t.junctions → table_place (trimmed t).counts (trimmed t).heads (trimmed t).times (trimmed t).draws v k ≡ at_place (leaving v rs) k
  place_held v k l =
      let x = get_or (leaving v rs) k blank_road in
      let i = 12 * v + k in
      let here = road (get_or (trimmed t).heads i 0) (get_or (trimmed t).times i 0) (get_or (trimmed t).draws i (pos 0)) in
      ap (λ n. cond (ltb k n) here None) (trimmed_counted v l)
      ∙ ⊎_elim
      (λ (kt : k < length (leaving v rs)).
      ap (λ o. cond (ltb k (length (leaving v rs))) o None)
      (ap (λ y. road y (get_or (trimmed t).times i 0) (get_or (trimmed t).draws i (pos 0))) (trimmed_entries (λ r. r.to) 0 t.heads h.headed v k l kt)
      ∙ ap (λ y. road x.to y (get_or (trimmed t).draws i (pos 0))) (trimmed_entries (λ r. r.seconds) 0 t.times h.timed v k l kt)
      ∙ ap (λ y. road x.to x.seconds y) (trimmed_entries (λ r. r.draw) (pos 0) t.draws h.drawn v k l kt)))
      (λ (past : length (leaving v rs) ≤ k). cond-false _ here None (le-ltb _ _ past) ∙ sym (cond-false _ (road x.to x.seconds x.draw) None (le-ltb _ _ past)))
      (cases_lt k (length (leaving v rs)))

  pub tables_of : TablesOf rs (trimmed t)
  tables_of = record {
    loads =
        ap (λ o. or_else o (or_else (first_failure (count_fault (trimmed t).counts) (length (trimmed t).counts)) (first_failure (entry_fault (trimmed t).counts (trimmed t).heads (trimmed t).times (trimmed t).draws) (12 * length (trimmed t).counts)))) lengths_pass
        ∙ ap (λ o. or_else o (first_failure (entry_fault (trimmed t).counts (trimmed t).heads (trimmed t).times (trimmed t).draws) (12 * length (trimmed t).counts))) (all_pass (count_fault (trimmed t).counts) (length (trimmed t).counts) count_passes)
        ∙ all_pass (entry_fault (trimmed t).counts (trimmed t).heads (trimmed t).times (trimmed t).draws) (12 * length (trimmed t).counts) entry_passes;
    junctions_told = h.named;
    a_row_each = rows_long ∙ h.named;
    roads_counted = λ v l. trimmed_counted v (omega (arith, h.named));
    roads_in_line_order = λ v k l kt. place_held v k (omega (arith, h.named));
  }
