-- What road tables hold, and what a road more makes of them.
use Rattle.std.specs.Prelude.{ℕ, ◌+◌, ◌*◌, max, cond, List, take, replicate, ℤ, pos, Ok, Err, vec_items, Result, nat_lt, slice_index, slice_set}
use Rattle.refusals.specs.declared.refusal.Refusal.TheVariants.{ThirteenthRoad}
use Rattle.files.specs.declared.fault.LineFault.{LineFault}
use Rattle.files.specs.declared.fault.LineFault.TheVariants.{WholeLine}
use Rattle.files.specs.declared.roads.RoadLine.{RoadLine}
use Rattle.files.specs.declared.tables.RoadTables.{RoadTables}

pub record Tables : Type 0 where
  pub junctions : ℕ
  pub counts : List ℕ
  pub heads : List ℕ
  pub times : List ℕ
  pub draws : List ℤ

abbrev pub tables : RoadTables → Tables
tables t = record { junctions = t.junctions; counts = vec_items t.counts; heads = vec_items t.heads; times = vec_items t.times; draws = vec_items t.draws }

abbrev pub empty_tables : ℕ → Tables
empty_tables room = record { junctions = 0; counts = replicate room 0; heads = replicate (12 * room) 0; times = replicate (12 * room) 0; draws = replicate (12 * room) (pos 0) }

-- how many roads there are from the junction that a road starts at
abbrev pub count : Tables → RoadLine → ℕ
count t r = slice_index t.counts r.from

abbrev pub fits_in : Tables → RoadLine → Result (Unit {0}) LineFault
fits_in t r = cond (nat_lt (count t r) 12) (Ok tt) (Err (WholeLine ThirteenthRoad))

-- a road at entry i, counted; the junctions are one more than the largest named
abbrev pub with_entry : Tables → RoadLine → ℕ → Tables
with_entry t r i = record { junctions = max (max t.junctions (r.from + 1)) (r.to + 1); counts = slice_set t.counts r.from (count t r + 1); heads = slice_set t.heads i r.to; times = slice_set t.times i r.seconds; draws = slice_set t.draws i r.draw }

-- the k-th road from a junction fills its place k − 1
abbrev pub with_road : Tables → RoadLine → Tables
with_road t r = cond (nat_lt (count t r) 12) (with_entry t r (12 * r.from + count t r)) t

-- the rows of the junctions alone
abbrev pub trimmed : Tables → Tables
trimmed t = record { junctions = t.junctions; counts = take t.junctions t.counts; heads = take (12 * t.junctions) t.heads; times = take (12 * t.junctions) t.times; draws = take (12 * t.junctions) t.draws }
