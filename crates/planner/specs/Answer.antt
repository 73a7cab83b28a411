-- What an office may conclude from the answer to a query.
use Rattle.std.specs.Prelude.{◌≡◌, ℕ, cond, ◌||◌, List, length, Some, None, Err, Option, Result, IsOkAnd, ◌==◌, ◌≢◌, nat_lt}
use Rattle.refusals.specs.declared.refusal.Refusal.{Refusal}
use Rattle.refusals.specs.declared.refusal.Refusal.TheVariants.{HeaterPowerTooHigh, CapacityOutOfRange}
use Rattle.maps.specs.Rows.{Rows}
use Rattle.maps.specs.Heater.{heated_rows}
use Rattle.loads.specs.declared.charge.Charge.{Charge}
use Rattle.loads.specs.Charge.{charge, charges}
use Rattle.front.specs.declared.arrival.Arrival.{Arrival}
use Rattle.front.specs.declared.label.Label.{Label}
use Rattle.front.specs.Walks.{Query, Walk, Drives, Reached}
use Rattle.front.specs.Front.{FrontBegins, Unbeaten}
use Rattle.front.specs.Labels.{arrivals}
use Rattle.promises.specs.Begin.{query, begin_check}
use Rattle.promises.specs.Advance.{NoneAt, SomeUnbeatenUnlisted}
use Rattle.promises.specs.Law.{NoneFaster}
use Rattle.planner.specs.declared.answer.Answer.{Answer}
use Rattle.planner.specs.declared.answer.Answer.TheVariants.{Route, NoRoute, Full}
use Rattle.questions.specs.declared.question.Question.{Question}

-- the query that a question asks on a map: its heater is on, and its van has this battery
abbrev pub query_of : Rows → Question → Query Charge
query_of rows a = query (heated_rows a.heater rows) (charges a.capacity) a.start (charge a.charge) a.goal a.deadline

-- the first check that a question fails, with tables of so many labels and so many waiting records: the heater, the capacity, then as begin
abbrev pub question_check : Rows → Question → ℕ → ℕ → Option Refusal
question_check rows a labels waiting =
    cond (nat_lt 6000 a.heater) (Some HeaterPowerTooHigh)
    (cond (a.capacity == 0 || nat_lt 100000 a.capacity) (Some CapacityOutOfRange)
    (begin_check (length rows) ((charges a.capacity).admits (charge a.charge)) a.start a.goal a.deadline labels waiting))

abbrev pub arrival_with : ℕ → ℕ → ℕ → Arrival Charge
arrival_with junction seconds level = record { junction = junction; time = seconds; load = charge level }

-- a drivable walk of so many roads reaches the goal in this time with this charge; none is faster, and none as fast keeps more charge
pub record FastestDrive (q : Query Charge) (seconds level roads : ℕ) : Type 0 where
  pub walk : Walk
  pub drives_to_the_goal : Drives q walk (arrival_with q.goal seconds level)
  pub of_so_many_roads : length walk ≡ roads
  pub none_faster : NoneFaster q seconds
  pub unbeaten : Unbeaten q (arrival_with q.goal seconds level)

-- no drivable walk reaches the goal within the deadline
abbrev pub NoDrive : Query Charge → Type 0
NoDrive q = (a : Arrival Charge) → Reached q a → a.junction ≢ q.goal

-- all n labels are used and begin the front, none of them is at the goal, and the front has more
pub record FrontHasMore (q : Query Charge) (n : ℕ) : Type 0 where
  pub labels : List (Label Charge)
  pub all_used : length labels ≡ n
  pub begin_the_front : FrontBegins q (arrivals labels)
  pub none_at_the_goal : NoneAt labels 0 n q.goal
  pub some_unlisted : SomeUnbeatenUnlisted q labels n

-- what each answer means, with n labels
abbrev pub MayConclude : Query Charge → ℕ → Answer → Type 0
MayConclude q n (Route r) = FastestDrive q r.seconds r.charge r.roads
MayConclude q n NoRoute = NoDrive q
MayConclude q n Full = FrontHasMore q n

-- refused exactly by the first failing check; otherwise what the answer says is so
abbrev pub AnsweredBy : Option Refusal → Query Charge → ℕ → Result Answer Refusal → Type 0
AnsweredBy None q n result = IsOkAnd result (MayConclude q n)
AnsweredBy (Some f) q n result = result ≡ Err f
