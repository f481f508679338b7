-- What each call of an engine answers, and the status that it leaves. A refusal is told by number, line and place.
use Rattle.std.specs.Prelude.{◌≡◌, ℕ, ◌+◌, ◌-◌, ◌<◌, ◌≤◌, Bool, ◌⊎◌, List, Some, None, Ok, Err, Result, slice_index}
use Rattle.tasks.specs.declared.line.Line.{Line}
use Rattle.tasks.specs.declared.table.Table.{Table}
use Rattle.tasks.specs.declared.job.Plan.{Plan}
use Rattle.tasks.specs.declared.job.Outcome.{Outcome}
use Rattle.tasks.specs.declared.job.Outcome.TheVariants.{Idle}
use Rattle.tasks.specs.declared.refusal.Refusal.{Refusal}
use Rattle.tasks.specs.Refused.{told}
use Rattle.tasks.specs.Tables.{lines_of, IsLine, Numbered}
use Rattle.policies.specs.Promises.{Meaning}
use Rattle.response.specs.Figures.{Answered}
use Rattle.engine.specs.declared.state.OpenJob.{OpenJob}
use Rattle.engine.specs.declared.state.Task.{Task}
use Rattle.engine.specs.Jobs.{unused, begun, heard, released, task_after}
use Rattle.engine.specs.Status.{Status, most_ticks, put}

-- ---- opening

-- a table's lines and figures are in place, no task was released, and the ticks go on counting
abbrev pub opened : Status → List Line → List ℕ → Status
opened st ls places = record { lines = Some ls; figures = places; ticks = st.ticks; task = λ n. unused }

-- shut, with these figures
abbrev pub closed : Status → List ℕ → Status
closed st places = record { lines = None; figures = places; ticks = st.ticks; task = st.task }

-- 11 if the engine is open; else what the figures of the table answer: 9, 8 or whether the table is admitted
pub data Opening (m : Meaning) (st : Status) (t : Table) : Result Bool Refusal → Status → Type 0 where
  already_open : {e : Refusal} {ls : List Line} → told e ≡ (11, 0, 0) → st.lines ≡ Some ls → Opening m st t (Err e) st
  unfit : {e : Refusal} {places : List ℕ} → st.lines ≡ None → Answered m.takes m.demand (lines_of t) places (Err e) → Opening m st t (Err e) (closed st places)
  opens : {admitted : Bool} {places : List ℕ} → st.lines ≡ None → Answered m.takes m.demand (lines_of t) places (Ok admitted) → Opening m st t (Ok admitted) (opened st (lines_of t) places)

-- ---- calls that name a task

-- 10 on a shut engine, 12 where no task has the number; else by a rule for the task's line
pub data OfTask {A : Type 0} (st : Status) (task : ℕ) (rule : List Line → Line → Result A Refusal → Status → Type 0) : Result A Refusal → Status → Type 0 where
  no_table : {e : Refusal} → told e ≡ (10, 0, 0) → st.lines ≡ None → OfTask st task rule (Err e) st
  no_task : {e : Refusal} {ls : List Line} → told e ≡ (12, 0, 0) → st.lines ≡ Some ls → (IsLine ls task → ⊥) → OfTask st task rule (Err e) st
  of_line : {ls : List Line} {l : Line} {r : Result A Refusal} {st' : Status} → st.lines ≡ Some ls → Numbered ls task l → rule ls l r st' → OfTask st task rule r st'

-- a task may be released: it never was, or a period of ticks has passed since
abbrev pub Rested : ℕ → Line → Task → Type 0
Rested now l t = (t.releases ≡ 0) ⊎ (t.last + l.period ≤ now)

-- 13 within a period of the last release, 14 while the job is open; else the job starts with the policy's plan
pub data ReleaseOn (m : Meaning) (st : Status) (task : ℕ) (l : Line) : Result Plan Refusal → Status → Type 0 where
  early : {e : Refusal} → told e ≡ (13, 0, 0) → 0 < (st.task task).releases → st.ticks < (st.task task).last + l.period → ReleaseOn m st task l (Err e) st
  still_open : {e : Refusal} {o : OpenJob} → told e ≡ (14, 0, 0) → Rested st.ticks l (st.task task) → (st.task task).job ≡ Some o → ReleaseOn m st task l (Err e) st
  starts : {p : Plan} → Rested st.ticks l (st.task task) → (st.task task).job ≡ None → p ≡ m.plan l (st.task task).mark
      → ReleaseOn m st task l (Ok p) (record { lines = st.lines; figures = st.figures; ticks = st.ticks; task = put task (released (st.task task) st.ticks (Some (begun l p))) st.task })

-- a release of the task
abbrev pub Release : Meaning → Status → ℕ → Result Plan Refusal → Status → Type 0
Release m st task = OfTask st task (λ ls l. ReleaseOn m st task l)

-- the question how often the task was released and how many of its jobs ended
abbrev pub CountsAsked : Status → ℕ → Result (ℕ × ℕ) Refusal → Status → Type 0
CountsAsked st task = OfTask st task (λ ls l r st'. (r ≡ Ok ((st.task task).releases, (st.task task).ends)) × (st' ≡ st))

-- the question for its response figure: that at its place among the figures
abbrev pub FigureAsked : Status → ℕ → Result ℕ Refusal → Status → Type 0
FigureAsked st task = OfTask st task (λ ls l r st'. (r ≡ Ok (slice_index st.figures (task - 1))) × (st' ≡ st))

-- ---- ticks

-- no task of the table has an open job
abbrev pub Quiet : Status → List Line → Type 0
Quiet st ls = (n : ℕ) → IsLine ls n → (st.task n).job ≡ None

-- the open job with the smallest task number is o; it is of the task n, whose line is l
pub record Turn (st : Status) (ls : List Line) (n : ℕ) (l : Line) (o : OpenJob) : Type 0 where
  pub line : Numbered ls n l
  pub job : (st.task n).job ≡ Some o
  pub first : (k : ℕ) → 1 ≤ k → k < n → (st.task k).job ≡ None

-- one tick later, with these records
abbrev pub later : Status → (ℕ → Task) → Status
later st task = record { lines = st.lines; figures = st.figures; ticks = st.ticks + 1; task = task }

-- a tick of an open engine that has ticks left: 15 where the word does not fit; else it goes to the open job with the
-- smallest task number, or to none
pub data TickOn (m : Meaning) (st : Status) (ls : List Line) (word : ℕ) : Result (ℕ × Outcome) Refusal → Status → Type 0 where
  idles : Quiet st ls → word ≡ 0 → TickOn m st ls word (Ok (0, Idle)) (later st st.task)
  no_job : {e : Refusal} → told e ≡ (15, 0, 0) → Quiet st ls → 0 < word → TickOn m st ls word (Err e) st
  unheard : {e : Refusal} {n : ℕ} {l : Line} {o : OpenJob} → told e ≡ (15, 0, 0) → Turn st ls n l o → heard o word ≡ None → TickOn m st ls word (Err e) st
  runs : {n : ℕ} {l : Line} {o : OpenJob} {x : Outcome} → Turn st ls n l o → heard o word ≡ Some x → TickOn m st ls word (Ok (n, x)) (later st (put n (task_after m l (st.task n) o x) st.task))

-- 10 on a shut engine, 16 where all ticks were accepted
pub data Tick (m : Meaning) (st : Status) (word : ℕ) : Result (ℕ × Outcome) Refusal → Status → Type 0 where
  unopened : {e : Refusal} → told e ≡ (10, 0, 0) → st.lines ≡ None → Tick m st word (Err e) st
  spent : {e : Refusal} {ls : List Line} → told e ≡ (16, 0, 0) → st.lines ≡ Some ls → most_ticks ≤ st.ticks → Tick m st word (Err e) st
  ticks : {ls : List Line} {r : Result (ℕ × Outcome) Refusal} {st' : Status} → st.lines ≡ Some ls → st.ticks < most_ticks → TickOn m st ls word r st' → Tick m st word r st'

-- ---- no call has a choice

-- a step has one answer and one status after it
abbrev pub Sole : {A : Type 0} → (A → Status → Type 0) → Type 0
Sole {A} step = (r r' : A) (st st' : Status) → step r st → step r' st' → (r ≡ r') × (st ≡ st')
