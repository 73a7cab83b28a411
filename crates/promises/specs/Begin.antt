-- What begin promises.
use Rattle.std.specs.Prelude.{◌≡◌, ℕ, ◌*◌, Bool, cond, not, ◌||◌, length, Some, None, Option, Result, ◌==◌, nat_lt, slice_set}
use Rattle.refusals.specs.declared.refusal.Refusal.{Refusal}
use Rattle.refusals.specs.declared.refusal.Refusal.TheVariants.{StartOffMap, GoalOffMap, StartLoadNotAdmitted, DeadlineTooLate, LabelTableSize, WaitingTableTooShort}
use Rattle.maps.specs.Rows.{Rows}
use Rattle.loads.specs.Meaning.{Meaning}
use Rattle.front.specs.declared.label.Label.{Label}
use Rattle.front.specs.Walks.{Query, departure}
use Rattle.promises.specs.declared.standing.Standing.{Standing}
use Rattle.promises.specs.declared.standing.Standing.TheVariants.{Paused, Arrived}
use Rattle.promises.specs.Numbers.{Numbers, Tables, AllUnchanged}
use Rattle.promises.specs.StandsFor.{StandsFor}
use Rattle.promises.specs.Refuses.{Refuses}

abbrev pub query : {L : Type 0} → Rows → Meaning L → ℕ → L → ℕ → ℕ → Query L
query rows m start f goal deadline = record { rows = rows; kind = m; start = start; load = f; goal = goal; deadline = deadline }

-- the first check that fails, on a map of n junctions, with tables of so many labels and of so many waiting records
abbrev pub begin_check : ℕ → Bool → ℕ → ℕ → ℕ → ℕ → ℕ → Option Refusal
begin_check n admitted start goal deadline labels waiting =
    cond (not (nat_lt start n)) (Some StartOffMap)
    (cond (not (nat_lt goal n)) (Some GoalOffMap)
    (cond (not admitted) (Some StartLoadNotAdmitted)
    (cond (nat_lt 999999 deadline) (Some DeadlineTooLate)
    (cond (labels == 0 || nat_lt 65535 labels) (Some LabelTableSize)
    (cond (nat_lt waiting (12 * labels)) (Some WaitingTableTooShort) None)))))

-- label 0, the empty walk
abbrev pub first_label : {L : Type 0} → Query L → Label L
first_label q = record { arrival = departure q; before = 0; place = 0 }

-- an accepted begin
pub record Begun {L : Type 0} (q : Query L) (t : Tables L) (s' : Numbers) (answer : Standing) : Type 0 where
  pub label_0_is_the_empty_walk : t.labels_after ≡ slice_set t.labels 0 (first_label q)
  pub one_label_is_listed : s'.listed ≡ 1
  pub arrived_exactly_when_start_is_goal : answer ≡ cond (q.start == q.goal) (Arrived 0) Paused
  pub stands : StandsFor q s' t.labels_after t.waiting_after

abbrev pub BeginPromise : {L : Type 0} → Query L → Tables L → Numbers → Numbers → Result Standing Refusal → Type 0
BeginPromise q t s s' r =
    Refuses (begin_check (length q.rows) (q.kind.admits q.load) q.start q.goal q.deadline (length t.labels) (length t.waiting))
    r (AllUnchanged t s s') (Begun q t s')
