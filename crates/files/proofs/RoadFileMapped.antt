-- What the definition with tables gives, the definition with a list of roads gives too.
use Rattle.std.proofs.Common.{◌≡◌, ℕ, ◌+◌, ◌*◌, ◌<◌, ◌≤◌, true, false, cond, eqb, ltb, List, [], ◌∷◌, ◌++◌, length, Ok, Err, Result, refl, ap, ◌∙◌, subst, ltb-true}
use Rattle.refusals.specs.declared.refusal.Refusal.TheVariants.{ThirteenthRoad, LineNotEnded}
use Rattle.files.specs.declared.fault.FileName.TheVariants.{Roads}
use Rattle.files.specs.declared.fault.LineFault.{LineFault}
use Rattle.files.specs.declared.fault.LineFault.TheVariants.{WholeLine}
use Rattle.files.specs.declared.fault.FileFault.{FileFault}
use Rattle.files.specs.declared.fault.ReadFault.{ReadFault}
use Rattle.files.specs.declared.fault.ReadFault.TheVariants.{NoMemory, InFile}
use Rattle.files.specs.declared.roads.RoadColumn.{RoadColumn}
use Rattle.files.specs.declared.roads.RoadColumn.TheVariants.{From}
use Rattle.files.specs.declared.roads.RoadLine.{RoadLine}
use Rattle.files.specs.declared.tables.RoadTables.{RoadTables}
use Rattle.files.specs.Faults.{then, placed, at_line}
use Rattle.files.specs.Lines.{pieces}
use Rattle.files.specs.Names.{all_among}
use Rattle.files.specs.Roads.{road_columns, road_same, road_named, road_names_line, road_line}
use Rattle.files.specs.Tables.{Tables, tables, empty_tables, count, fits_in, with_entry, with_road, trimmed}
use Rattle.files.specs.Files.{lines_read, file_read, ReadAs}
use Rattle.files.specs.RoadFile.{road_taken, road_file, road_tables}
use Rattle.files.specs.RoadLaw.{leaving, road_listed, road_lines, TablesOf, MapsTheRoads}
use Rattle.files.proofs.FirstFault.{ok_value, err_value, ok_no_err, then_ok}
use Rattle.files.proofs.NamesTaken.{names_complete}
use Rattle.files.proofs.RoadInRange.{InRange, road_in_range}
use Rattle.files.proofs.TablesFilled.{Filled, empty_filled, filled_more, tables_of}

-- the same fault, or tables that hold the roads
abbrev Agree : {E : Type 0} → ℕ → Result Tables E → Result (List RoadLine) E → Type 0
Agree room (Ok t) (Ok rs) = Filled room t rs
Agree room (Ok t) (Err f) = ⊥
Agree room (Err e) (Ok rs) = ⊥
Agree room (Err e) (Err f) = f ≡ e

-- one road more, where its junction has fewer than twelve
agree_road : (room : ℕ) (t : Tables) (rs : List RoadLine) → Filled room t rs → (x : Result RoadLine LineFault) → ((r : RoadLine) → x ≡ Ok r → (c : RoadColumn) → InRange room c r) → Agree room (then x (λ r. then (fits_in t r) (λ _. Ok (with_road t r)))) (then x (λ r. cond (ltb (length (leaving r.from rs)) 12) (Ok (rs ++ r ∷ [])) (Err (WholeLine ThirteenthRoad))))
agree_road room t rs h (Err e) range = refl
agree_road room t rs h (Ok r) range =
    let same : ltb (count t r) 12 ≡ ltb (length (leaving r.from rs)) 12 = ap (λ n. ltb n 12) (h.counted r.from (range r refl From)) in
    subst (λ b. Agree room (then (fits_in t r) (λ _. Ok (with_road t r))) (cond b (Ok (rs ++ r ∷ [])) (Err (WholeLine ThirteenthRoad)))) same
    ((elim (ltb (count t r) 12) as (λ b. (b ≡ true → count t r < 12) → Agree room (then (cond b (Ok tt) (Err (WholeLine ThirteenthRoad))) (λ _. Ok (cond b (with_entry t r (12 * r.from + count t r)) t))) (cond b (Ok (rs ++ r ∷ [])) (Err (WholeLine ThirteenthRoad))))
    [ true ↦ λ f. filled_more h r (range r refl) (f refl) | false ↦ λ _. refl ]) (λ e. ltb-true _ 12 e))

agree_at : (room n : ℕ) (x : Result Tables LineFault) (y : Result (List RoadLine) LineFault) → Agree room x y → Agree room (at_line Roads n x) (at_line Roads n y)
agree_at room n (Ok t) (Ok rs) h = h
agree_at room n (Ok t) (Err f) h = h
agree_at room n (Err e) (Ok rs) h = h
agree_at room n (Err e) (Err f) h = ap (placed Roads n) h

agree_then : (room : ℕ) (x : Result Tables FileFault) (y : Result (List RoadLine) FileFault) (f : Tables → Result Tables FileFault) (g : List RoadLine → Result (List RoadLine) FileFault) → Agree room x y → ((t : Tables) (rs : List RoadLine) → Filled room t rs → Agree room (f t) (g rs)) → Agree room (then x f) (then y g)
agree_then room (Ok t) (Ok rs) f g h k = k t rs h
agree_then room (Ok t) (Err e) f g h k = absurd h
agree_then room (Err e) (Ok rs) f g h k = absurd h
agree_then room (Err e) (Err d) f g h k = h

agree_lines : (room : ℕ) (cs : List RoadColumn) (n : ℕ) (t : Tables) (rs : List RoadLine) (ps : List (List ℕ)) → all_among road_same road_columns cs ≡ true → Filled room t rs → Agree room (lines_read Roads (road_taken room cs) n t ps) (lines_read Roads (road_listed room cs) n rs ps)
agree_lines room cs n t rs [] all h = h
agree_lines room cs n t rs (p ∷ []) all h =
    elim (eqb (length p) 0) as (λ b. Agree {E = FileFault} room (cond b (Ok t) (Err (placed Roads (n + 1) (WholeLine LineNotEnded)))) (cond b (Ok rs) (Err (placed Roads (n + 1) (WholeLine LineNotEnded))))) [ true ↦ h | false ↦ refl ]
agree_lines room cs n t rs (p ∷ q ∷ ps) all h =
    agree_then room (at_line Roads (n + 1) (road_taken room cs t p)) (at_line Roads (n + 1) (road_listed room cs rs p)) _ _
    (agree_at room (n + 1) (road_taken room cs t p) (road_listed room cs rs p) (agree_road room t rs h (road_line room cs p) (λ r e. road_in_range room cs p r all e)))
    (λ u us hs. agree_lines room cs (n + 1) u us (q ∷ ps) all hs)

agree_names : (room n : ℕ) (x : Result (List RoadColumn) LineFault) (ps : List (List ℕ)) (f : List RoadColumn × List (List ℕ) → Result Tables FileFault) (g : List RoadColumn × List (List ℕ) → Result (List RoadLine) FileFault) → ((cs : List RoadColumn) → x ≡ Ok cs → Agree room (f (cs, ps)) (g (cs, ps))) → Agree room (then (then (at_line Roads n x) (λ cs. Ok (cs, ps))) f) (then (then (at_line Roads n x) (λ cs. Ok (cs, ps))) g)
agree_names room n (Ok cs) ps f g k = k cs refl
agree_names room n (Err e) ps f g k = refl

agree_file : (room : ℕ) (ps : List (List ℕ)) → Agree room (road_file room (empty_tables room) ps) (file_read Roads road_names_line (road_listed room) [] ps)
agree_file room [] = refl
agree_file room (p ∷ []) = refl
agree_file room (p ∷ q ∷ ps) =
    agree_names room 1 (road_names_line p) (q ∷ ps) _ _
    (λ cs e. agree_lines room cs 1 (empty_tables room) [] (q ∷ ps) (names_complete road_same road_named road_columns (pieces 32 p) cs e) (empty_filled room))

maps_ok : (room : ℕ) (u : Tables) (t : RoadTables) (y : Result (List RoadLine) FileFault) → room ≤ 9600 → trimmed u ≡ tables t → Agree room (Ok u) y → MapsTheRoads (Ok t) y
maps_ok room u t (Ok rs) most e h = subst (TablesOf rs) e (tables_of h most)
maps_ok room u t (Err f) most e h = h

maps_err : (room : ℕ) (x : Result Tables FileFault) (f : FileFault) (y : Result (List RoadLine) FileFault) → then x (λ t. Ok (trimmed t)) ≡ Err f → Agree room x y → y ≡ Err f
maps_err room (Ok t) f y e h = absurd (ok_no_err e)
maps_err room (Err d) f (Ok rs) e h = absurd h
maps_err room (Err d) f (Err g) e h = ap Err (h ∙ err_value e)

pub maps_the_roads : (room : ℕ) (bytes : List ℕ) (r : Result RoadTables ReadFault) → room ≤ 9600 → ReadAs tables r (road_tables room bytes) → MapsTheRoads r (road_lines room bytes)
maps_the_roads room bytes (Ok t) most h =
    let s = then_ok (road_file room (empty_tables room) (pieces 10 bytes)) (λ u. Ok (trimmed u)) (tables t) h in
    maps_ok room s.0 t (road_lines room bytes) most (ok_value s.2) (subst (λ x. Agree room x (road_lines room bytes)) s.1 (agree_file room (pieces 10 bytes)))
maps_the_roads room bytes (Err NoMemory) most h = tt
maps_the_roads room bytes (Err (InFile f)) most h = maps_err room (road_file room (empty_tables room) (pieces 10 bytes)) f (road_lines room bytes) h (agree_file room (pieces 10 bytes))
