-- The table map: what its tables mean, and the checks that they pass.
use Rattle.std.specs.Prelude.{ℕ, ◌+◌, ◌*◌, ◌/◌, ◌%◌, cond, not, ◌||◌, List, length, ℤ, pos, negsuc, Some, None, Option, ◌==◌, int_lt, nat_lt, slice_index, slice_index_or}
use Rattle.maps.specs.declared.road.Road.{Road}
use Rattle.maps.specs.declared.table.Tables.{Tables}
use Rattle.refusals.specs.declared.refusal.Refusal.{Refusal}
use Rattle.refusals.specs.declared.refusal.Refusal.TheVariants.{TableLengthsDisagree, CountAboveTwelve, HeadOffMap, RoadTimeOutOfRange, RoadDrawOutOfRange}
use Rattle.maps.specs.Rows.{Rows, tabulated}
use Rattle.maps.specs.FirstFailure.{or_else, first_failure}

-- place k of junction v is entry 12 × v + k where k is below the junction's count
abbrev pub table_place : List ℕ → List ℕ → List ℕ → List ℤ → ℕ → ℕ → Option Road
table_place counts heads times draws v k =
    cond (nat_lt k (slice_index counts v))
    (Some (record { head = slice_index heads (12 * v + k); seconds = slice_index times (12 * v + k); draw = slice_index_or draws (12 * v + k) (pos 0) }))
    None

abbrev pub table_rows : List ℕ → List ℕ → List ℕ → List ℤ → Rows
table_rows counts heads times draws = tabulated (length counts) (table_place counts heads times draws)

abbrev pub lengths_fault : List ℕ → List ℕ → List ℕ → List ℤ → Option Refusal
lengths_fault counts heads times draws =
    cond (nat_lt 9600 (length counts) || not (length heads == 12 * length counts) || not (length times == 12 * length counts) || not (length draws == 12 * length counts))
    (Some TableLengthsDisagree) None

abbrev pub count_fault : List ℕ → ℕ → Option Refusal
count_fault counts v = cond (nat_lt 12 (slice_index counts v)) (Some CountAboveTwelve) None

-- what is wrong with a road of a map of n junctions
abbrev pub road_fault : ℕ → ℕ → ℕ → ℤ → Option Refusal
road_fault n head seconds draw =
    cond (not (nat_lt head n)) (Some HeadOffMap)
    (cond (seconds == 0 || nat_lt 7200 seconds) (Some RoadTimeOutOfRange)
    (cond (int_lt draw (negsuc 99999) || int_lt (pos 100000) draw) (Some RoadDrawOutOfRange)
    None))

abbrev pub entry_fault : List ℕ → List ℕ → List ℕ → List ℤ → ℕ → Option Refusal
entry_fault counts heads times draws i =
    cond (nat_lt (i % 12) (slice_index counts (i / 12))) (road_fault (length counts) (slice_index heads i) (slice_index times i) (slice_index_or draws i (pos 0))) None

-- the first check that the tables fail
abbrev pub table_refusal : List ℕ → List ℕ → List ℕ → List ℤ → Option Refusal
table_refusal counts heads times draws =
    or_else (lengths_fault counts heads times draws)
    (or_else (first_failure (count_fault counts) (length counts))
    (first_failure (entry_fault counts heads times draws) (12 * length counts)))

-- the same of tables as they are lent
abbrev pub tables_rows : Tables → Rows
tables_rows t = table_rows t.counts.now t.heads.now t.times.now t.draws.now

abbrev pub tables_lengths_fault : Tables → Option Refusal
tables_lengths_fault t = lengths_fault t.counts.now t.heads.now t.times.now t.draws.now

abbrev pub tables_entry_fault : Tables → ℕ → Option Refusal
tables_entry_fault t i = entry_fault t.counts.now t.heads.now t.times.now t.draws.now i

abbrev pub tables_refusal : Tables → Option Refusal
tables_refusal t = table_refusal t.counts.now t.heads.now t.times.now t.draws.now
