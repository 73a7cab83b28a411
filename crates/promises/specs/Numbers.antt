-- The numbers that a search keeps of its own, and the tables that it is lent.
use Rattle.std.specs.Prelude.{◌≡◌, ℕ, Bool, false, List}
use Rattle.front.specs.declared.label.Label.{Label}
use Rattle.promises.specs.declared.candidate.Candidate.{Candidate}

pub record Numbers : Type 0 where
  -- whether a begin was accepted yet
  pub begun : Bool
  -- the junctions of its map, its goal and its deadline
  pub junctions : ℕ
  pub goal : ℕ
  pub deadline : ℕ
  -- the lengths of its label table and of its waiting table
  pub room : ℕ
  pub width : ℕ
  -- how many labels are listed, and how many candidates wait
  pub listed : ℕ
  pub waiting : ℕ

-- a new search
abbrev pub new_numbers : Numbers
new_numbers = record { begun = false; junctions = 0; goal = 0; deadline = 0; room = 0; width = 0; listed = 0; waiting = 0 }

-- all numbers but how many labels are listed and how many candidates wait
pub record KeepsItsQuery (s s' : Numbers) : Type 0 where
  pub begun : s'.begun ≡ s.begun
  pub junctions : s'.junctions ≡ s.junctions
  pub goal : s'.goal ≡ s.goal
  pub deadline : s'.deadline ≡ s.deadline
  pub room : s'.room ≡ s.room
  pub width : s'.width ≡ s.width

-- the tables that a call was lent: what they held before it and after it
pub record Tables (L : Type 0) : Type 0 where
  pub labels : List (Label L)
  pub waiting : List (Candidate L)
  pub labels_after : List (Label L)
  pub waiting_after : List (Candidate L)

abbrev pub tables : {L : Type 0} → List (Label L) → List (Candidate L) → List (Label L) → List (Candidate L) → Tables L
tables ls ws ls' ws' = record { labels = ls; waiting = ws; labels_after = ls'; waiting_after = ws' }

-- the search and both tables are as before
abbrev pub AllUnchanged : {L : Type 0} → Tables L → Numbers → Numbers → Type 0
AllUnchanged t s s' = (s' ≡ s) × (t.labels_after ≡ t.labels) × (t.waiting_after ≡ t.waiting)
