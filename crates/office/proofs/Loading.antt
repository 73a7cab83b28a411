-- The tables of an accepted road file load.
use Rattle.std.proofs.Common.{◌≡◌, List, Some, None, Ok, Err, vec_items, Result, MatchResult, refl}
use Rattle.std.specs.Result.{IsOk}
use Rattle.refusals.specs.declared.refusal.Refusal.{Refusal}
use Rattle.maps.specs.declared.table.Tables.{Tables}
use Rattle.maps.specs.Table.{tables_refusal}
use Rattle.files.specs.declared.fault.FileFault.{FileFault}
use Rattle.files.specs.declared.roads.RoadLine.{RoadLine}
use Rattle.files.specs.declared.tables.RoadTables.{RoadTables}
use Rattle.files.specs.RoadLaw.{MapsTheRoads}

pub road_tables_load : {A : Type 0} (t : RoadTables) (lines : Result (List RoadLine) FileFault) → MapsTheRoads (Ok t) lines → (u : Tables) → u.counts.now ≡ vec_items t.counts → u.heads.now ≡ vec_items t.heads → u.times.now ≡ vec_items t.times → u.draws.now ≡ vec_items t.draws
    → (r : Result A Refusal) (P : A → Type 0) → MatchResult r P (λ f. tables_refusal u ≡ Some f) → IsOk r
road_tables_load t lines maps u c h m d (Ok x) P made = refl
road_tables_load t (Ok lines) maps u c h m d (Err f) P refused = let none : tables_refusal u ≡ None = rw (c, h, m, d) maps.loads in cc
road_tables_load t (Err e) maps u c h m d (Err f) P refused = absurd maps
