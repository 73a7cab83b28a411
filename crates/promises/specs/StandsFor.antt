-- What holds of a search and its tables between two calls, for the query that it began with.
-- Nothing on this page has to be believed: it carries the law from one call to the next.
use Rattle.std.specs.Prelude.{◌≡◌, ◌≤◌, true, List, map, length, take}
use Rattle.std.specs.List.{ContainsAt as Has}
use Rattle.front.specs.declared.label.Label.{Label}
use Rattle.front.specs.Walks.{Query, Valid}
use Rattle.front.specs.Invariant.{Invariant}
use Rattle.queue.specs.Heaps.{Heaped}
use Rattle.promises.specs.declared.candidate.Candidate.{Candidate}
use Rattle.promises.specs.Numbers.{Numbers}
use Rattle.promises.specs.Order.{leaves_before}

abbrev pub labels_of : {L : Type 0} → List (Candidate L) → List (Label L)
labels_of cs = map (λ c. c.label) cs

pub record StandsFor {L : Type 0} (q : Query L) (s : Numbers) (ls : List (Label L)) (ws : List (Candidate L)) : Type 0 where
  pub valid : Valid q
  pub begun : s.begun ≡ true
  pub junctions : s.junctions ≡ length q.rows
  pub goal : s.goal ≡ q.goal
  pub deadline : s.deadline ≡ q.deadline
  pub room : s.room ≡ length ls
  pub width : s.width ≡ length ws
  pub listed_within_the_table : s.listed ≤ length ls
  pub waiting_in_heap_order : Heaped leaves_before ws s.waiting
  pub candidates_carry_their_rank : (c : Candidate L) → Has (take s.waiting ws) c → c.rank ≡ q.kind.rank c.label.arrival.load
  pub invariant : Invariant q (take s.listed ls) (labels_of (take s.waiting ws))
