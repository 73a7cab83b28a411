-- Each value of a road line that is read is in its range.
use Rattle.std.proofs.Common.{◌≡◌, ℕ, ◌+◌, ◌<◌, ◌≤◌, true, false, cond, ◌&&◌, ltb, leb, ◌⊎◌, List, [], ◌∷◌, length, ℤ, pos, negsuc, ◌≤ℤ◌, Ok, Err, Result, sym, refl, ap, subst, inl, inr, ⊎_elim, arith, ltb-true, leb-true}
use lib.Signed.{le_z}
use Rattle.std.proofs.lemmas.Bool.{and_parts, or_cases, true≢false}
use Rattle.std.proofs.lemmas.Int.{ints}
use Rattle.refusals.specs.declared.refusal.Refusal.{Refusal}
use Rattle.refusals.specs.declared.refusal.Refusal.TheVariants.{JunctionBeyondRoom, RoadTimeOutOfRange, RoadDrawOutOfRange, FieldCountDiffers}
use Rattle.files.specs.declared.fault.LineFault.TheVariants.{WholeLine}
use Rattle.files.specs.declared.roads.RoadColumn.{RoadColumn}
use Rattle.files.specs.declared.roads.RoadColumn.TheVariants.{From, To, Seconds, WattHours}
use Rattle.files.specs.declared.roads.RoadLine.{RoadLine}
use Rattle.files.specs.Faults.{in_line, in_field}
use Rattle.files.specs.Lines.{pieces}
use Rattle.files.specs.Fields.{parted}
use Rattle.files.specs.Values.{value, signed_value, fields_filled}
use Rattle.files.specs.Names.{among, all_among}
use Rattle.files.specs.Roads.{road_columns, road_same, junction, seconds, watt_hours, road_filled, blank_road, road_line}
use Rattle.files.proofs.NamesTaken.{parted_long}
use Rattle.files.proofs.FirstFault.{then_ok, ok_value, ok_no_err, cond_ok}

-- the value in one column of a road is in its range
abbrev pub InRange : ℕ → RoadColumn → RoadLine → Type 0
InRange room From r = r.from < room
InRange room To r = r.to < room
InRange room Seconds r = (1 ≤ r.seconds) × (r.seconds ≤ 7200)
InRange room WattHours r = (negsuc 99999 ≤ℤ r.draw) × (r.draw ≤ℤ pos 100000)

junction_low : (room : ℕ) (f : List ℕ) (v : ℕ) → junction room f ≡ Ok v → v < room
junction_low room f v e =
    let s = then_ok (value f) _ v e in
    let t = cond_ok (ltb s.0 room) s.0 v JunctionBeyondRoom s.2 in
    subst (λ n. n < room) t.1 (ltb-true s.0 room t.0)

seconds_fit : (f : List ℕ) (v : ℕ) → seconds f ≡ Ok v → (1 ≤ v) × (v ≤ 7200)
seconds_fit f v e =
    let s = then_ok (value f) _ v e in
    let t = cond_ok (leb 1 s.0 && leb s.0 7200) s.0 v RoadTimeOutOfRange s.2 in
    let b : leb 1 s.0 && leb s.0 7200 ≡ true = t.0 in
    let p = and_parts (leb 1 s.0) (leb s.0 7200) b in
    subst (λ n. (1 ≤ n) × (n ≤ 7200)) t.1 (leb-true 1 _ p.0, leb-true _ 7200 p.1)

draw_fits : (f : List ℕ) (v : ℤ) → watt_hours f ≡ Ok v → (negsuc 99999 ≤ℤ v) × (v ≤ℤ pos 100000)
draw_fits f v e =
    let s = then_ok (signed_value f) _ v e in
    let t = cond_ok (le_z (negsuc 99999) s.0 && le_z s.0 (pos 100000)) s.0 v RoadDrawOutOfRange s.2 in
    let p = and_parts (le_z (negsuc 99999) s.0) (le_z s.0 (pos 100000)) t.0 in
    subst (λ n. (negsuc 99999 ≤ℤ n) × (n ≤ℤ pos 100000)) t.1 (omega (arith, ints, p.0), omega (arith, ints, p.1))

-- a column that is filled is in range
own_column : (room : ℕ) (road : RoadLine) (c : RoadColumn) (f : List ℕ) (r : RoadLine) → road_filled room road c f ≡ Ok r → InRange room c r
own_column room road From f r e = let s = then_ok (junction room f) _ r e in subst (InRange room From) (ok_value s.2) (junction_low room f s.0 s.1)
own_column room road To f r e = let s = then_ok (junction room f) _ r e in subst (InRange room To) (ok_value s.2) (junction_low room f s.0 s.1)
own_column room road Seconds f r e = let s = then_ok (seconds f) _ r e in subst (InRange room Seconds) (ok_value s.2) (seconds_fit f s.0 s.1)
own_column room road WattHours f r e = let s = then_ok (watt_hours f) _ r e in subst (InRange room WattHours) (ok_value s.2) (draw_fits f s.0 s.1)

-- and the others stay in range
each_column : (room : ℕ) (road : RoadLine) (c d : RoadColumn) (f : List ℕ) (r : RoadLine) → road_filled room road c f ≡ Ok r → InRange room d road → InRange room d r
each_column room road From From f r e h = own_column room road From f r e
each_column room road From To f r e h = subst (InRange room To) (ok_value (then_ok (junction room f) _ r e).2) h
each_column room road From Seconds f r e h = subst (InRange room Seconds) (ok_value (then_ok (junction room f) _ r e).2) h
each_column room road From WattHours f r e h = subst (InRange room WattHours) (ok_value (then_ok (junction room f) _ r e).2) h
each_column room road To From f r e h = subst (InRange room From) (ok_value (then_ok (junction room f) _ r e).2) h
each_column room road To To f r e h = own_column room road To f r e
each_column room road To Seconds f r e h = subst (InRange room Seconds) (ok_value (then_ok (junction room f) _ r e).2) h
each_column room road To WattHours f r e h = subst (InRange room WattHours) (ok_value (then_ok (junction room f) _ r e).2) h
each_column room road Seconds From f r e h = subst (InRange room From) (ok_value (then_ok (seconds f) _ r e).2) h
each_column room road Seconds To f r e h = subst (InRange room To) (ok_value (then_ok (seconds f) _ r e).2) h
each_column room road Seconds Seconds f r e h = own_column room road Seconds f r e
each_column room road Seconds WattHours f r e h = subst (InRange room WattHours) (ok_value (then_ok (seconds f) _ r e).2) h
each_column room road WattHours From f r e h = subst (InRange room From) (ok_value (then_ok (watt_hours f) _ r e).2) h
each_column room road WattHours To f r e h = subst (InRange room To) (ok_value (then_ok (watt_hours f) _ r e).2) h
each_column room road WattHours Seconds f r e h = subst (InRange room Seconds) (ok_value (then_ok (watt_hours f) _ r e).2) h
each_column room road WattHours WattHours f r e h = own_column room road WattHours f r e

same_column : (c d : RoadColumn) → road_same c d ≡ true → c ≡ d
same_column From From e = refl
same_column From To e = absurd (true≢false (sym e))
same_column From Seconds e = absurd (true≢false (sym e))
same_column From WattHours e = absurd (true≢false (sym e))
same_column To From e = absurd (true≢false (sym e))
same_column To To e = refl
same_column To Seconds e = absurd (true≢false (sym e))
same_column To WattHours e = absurd (true≢false (sym e))
same_column Seconds From e = absurd (true≢false (sym e))
same_column Seconds To e = absurd (true≢false (sym e))
same_column Seconds Seconds e = refl
same_column Seconds WattHours e = absurd (true≢false (sym e))
same_column WattHours From e = absurd (true≢false (sym e))
same_column WattHours To e = absurd (true≢false (sym e))
same_column WattHours Seconds e = absurd (true≢false (sym e))
same_column WattHours WattHours e = refl

in_line_ok : (k : ℕ) (x : Result RoadLine Refusal) (r : RoadLine) → in_line (in_field k x) ≡ Ok r → x ≡ Ok r
in_line_ok k (Ok v) r e = ap Ok (ok_value e)
in_line_ok k (Err z) r e = absurd (ok_no_err (sym e))

-- a column that was in range before, or is read, is in range
fields_in_range : (room k : ℕ) (cs : List RoadColumn) (fs : List (List ℕ)) (road r : RoadLine) → fields_filled (road_filled room) k cs fs road ≡ Ok r → length cs ≤ length fs → (d : RoadColumn) → InRange room d road ⊎ (among road_same d cs ≡ true) → InRange room d r
fields_in_range room k [] fs road r e l d h = ⊎_elim (λ i. subst (InRange room d) (ok_value e) i) (λ n. absurd (true≢false (sym n))) h
fields_in_range room k (c ∷ cs) [] road r e l d h = absurd (omega arith)
fields_in_range room k (c ∷ cs) (f ∷ fs) road r e l d h =
    let s = then_ok (in_line (in_field k (road_filled room road c f))) (fields_filled (road_filled room) (k + 1) cs fs) r e in
    let one : road_filled room road c f ≡ Ok s.0 = in_line_ok k _ s.0 s.1 in
    fields_in_range room (k + 1) cs fs s.0 r s.2 (omega arith) d
    (⊎_elim
    (λ i. inl (each_column room road c d f s.0 one i))
    (λ n. ⊎_elim
    (λ same. inl (subst (λ x. InRange room x s.0) (same_column c d same) (own_column room road c f s.0 one)))
    (λ later. inr later)
    (or_cases (road_same c d) (among road_same d cs) n))
    h)

every_column : (cs : List RoadColumn) → all_among road_same road_columns cs ≡ true → (d : RoadColumn) → among road_same d cs ≡ true
every_column cs e d =
    let has = λ (x : RoadColumn). among road_same x cs in
    let a = and_parts (has From) (has To && (has Seconds && (has WattHours && true))) e in
    let b = and_parts (has To) (has Seconds && (has WattHours && true)) a.1 in
    let c = and_parts (has Seconds) (has WattHours && true) b.1 in
    elim d as (λ x. among road_same x cs ≡ true) [ From ↦ a.0 | To ↦ b.0 | Seconds ↦ c.0 | WattHours ↦ (and_parts (has WattHours) true c.1).0 ]

pub road_in_range : (room : ℕ) (cs : List RoadColumn) (p : List ℕ) (r : RoadLine) → all_among road_same road_columns cs ≡ true → road_line room cs p ≡ Ok r → (d : RoadColumn) → InRange room d r
road_in_range room cs p r all e d =
    (elim (parted (length cs) (pieces 32 p)) as (λ t. t ≡ parted (length cs) (pieces 32 p) → cond t (fields_filled (road_filled room) 1 cs (pieces 32 p) blank_road) (Err (WholeLine FieldCountDiffers)) ≡ Ok r → InRange room d r) [
      | true ↦ λ t g. let long = parted_long (length cs) (pieces 32 p) t in fields_in_range room 1 cs (pieces 32 p) blank_road r g (omega (arith, long)) d (inr (every_column cs all d))
      | false ↦ λ t g. absurd (ok_no_err (sym g))
    ]) refl e
