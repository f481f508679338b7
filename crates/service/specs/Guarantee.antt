-- The service guarantee: what holds of every served log, by its account.
use Rattle.std.specs.Prelude.{◌≡◌, ℕ, ◌+◌, ◌-◌, ◌<◌, ◌≤◌, Bool, cond, List, [], ◌∷◌, ◌++◌, length, take, Some, Ok, Err, Result}
use Rattle.tasks.specs.declared.line.Line.{Line}
use Rattle.tasks.specs.declared.table.Table.{Table}
use Rattle.tasks.specs.declared.job.Plan.{Plan}
use Rattle.tasks.specs.declared.job.Ending.{Ending}
use Rattle.tasks.specs.declared.job.Outcome.{Outcome}
use Rattle.tasks.specs.declared.job.Outcome.TheVariants.{Idle}
use Rattle.tasks.specs.declared.refusal.Refusal.{Refusal}
use Rattle.tasks.specs.Tables.{IsLine, Numbered}
use Rattle.policies.specs.Promises.{Meaning}
use Rattle.policies.specs.Runs.{mark_after, rights}
use Rattle.response.specs.Figures as response
use Rattle.engine.specs.Jobs.{is_open}
use Rattle.engine.specs.Status.{Status}
use Rattle.engine.specs.Steps as step
use Rattle.service.specs.declared.log.Call.{Call}
use Rattle.service.specs.declared.log.Call.TheVariants.{Open, Release, Tick, Counts, Figure}
use Rattle.service.specs.declared.log.Reply.{Reply}
use Rattle.service.specs.declared.log.Reply.TheVariants.{Opened, Planned, Ticked, Counted, Figured}
use Rattle.service.specs.declared.log.Entry.{Entry}
use Rattle.service.specs.Account.{Tally, Account, account}
use Rattle.service.specs.Served.{answer, counted, Served, Alone}

-- as many ends as releases
abbrev pub Even : Tally → Type 0
Even t = t.releases ≡ length t.ends

-- every task of the table has as many ends as releases
abbrev pub AllEven : Account → List Line → Type 0
AllEven a ls = (n : ℕ) → IsLine ls n → Even (a.tally n)

-- f is the response figure of the task n in the open table: the smallest time that passes, or 0
abbrev pub FigureOf : Meaning → Account → ℕ → ℕ → Type 0
FigureOf m a n f = (ls : List Line) (l : Line) → a.lines ≡ Some ls → Numbered ls n l → response.Figure m.demand (take (n - 1) ls) l f

-- ---- what an answer tells, by the account of the calls before

-- a call after the account a, and what its answer tells; refusals and admissions are told by the steps alone
pub data Tells (m : Meaning) (a : Account) : Call → Result Reply Refusal → Type 0 where
  a_refusal : {c : Call} {e : Refusal} → Tells m a c (Err e)
  admission : {t : Table} {b : Bool} → Tells m a (Open t) (Ok (Opened b))
  -- the policy's plan at the mark after the task's ends
  plan_told : {n : ℕ} {p : Plan} → ((ls : List Line) (l : Line) → a.lines ≡ Some ls → Numbered ls n l → p ≡ m.plan l (mark_after (m.plan l) (m.next l) 0 (a.tally n).ends)) → Tells m a (Release n) (Ok (Planned p))
  -- idle exactly when every task has as many ends as releases
  outcome_told : {w n : ℕ} {o : Outcome} → ((ls : List Line) → a.lines ≡ Some ls → (o ≡ Idle → AllEven a ls) × (AllEven a ls → o ≡ Idle)) → Tells m a (Tick w) (Ok (Ticked n o))
  -- the account's two counts
  counts_told : {n x y : ℕ} → x ≡ (a.tally n).releases → y ≡ length (a.tally n).ends → Tells m a (Counts n) (Ok (Counted x y))
  -- the task's response figure
  figure_told : {n f : ℕ} → FigureOf m a n f → Tells m a (Figure n) (Ok (Figured f))

-- P holds of the newest entry of a log, after the account of the entries before it
abbrev pub Newest : (Account → Call → Result Reply Refusal → Type 0) → List Entry → Type 0
Newest P [] = Unit {0}
Newest P (e ∷ log) = P (account log) e.call e.answer

-- ---- the guarantee

-- of a log, by its account; n is the number of a task of the open table, and l its line
pub record Guarantee (m : Meaning) (log : List Entry) : Type 0 where
  -- the newest answer tells what the account before it says
  pub told : Newest (Tells m) log
  -- a task's releases are its ends, and one more exactly while its job is open
  pub equal_when_closed : (ls : List Line) (n : ℕ) → (account log).lines ≡ Some ls → IsLine ls n → ((account log).tally n).releases ≡ length ((account log).tally n).ends + cond ((account log).tally n).pending 1 0
  -- once as many ticks as its figure have followed the last release, its jobs have ended
  pub in_time : (ls : List Line) (n : ℕ) (l : Line) (f : ℕ) → (account log).lines ≡ Some ls → Numbered ls n l → FigureOf m (account log) n f → 0 < f
      → ((account log).tally n).last + f ≤ (account log).ticks → Even ((account log).tally n)
  -- of any k ends in a row at least m are right
  pub reliable : (ls : List Line) (n : ℕ) (l : Line) → (account log).lines ≡ Some ls → Numbered ls n l → (before window after : List Ending)
      → ((account log).tally n).ends ≡ before ++ (window ++ after) → length window ≡ l.k → l.m ≤ rights window

-- P holds of a log and of each log that it grew from
abbrev pub Always : (List Entry → Type 0) → List Entry → Type 0
Always P [] = P []
Always P (e ∷ log) = P (e ∷ log) × Always P log

-- ---- the whole

-- the status holds what the account says
pub record Holds (a : Account) (st : Status) : Type 0 where
  pub table : st.lines ≡ a.lines
  pub ticks : st.ticks ≡ a.ticks
  pub releases : (n : ℕ) → (st.task n).releases ≡ (a.tally n).releases
  pub last : (n : ℕ) → (st.task n).last ≡ (a.tally n).last
  pub ends : (n : ℕ) → (st.task n).ends ≡ length (a.tally n).ends
  pub pending : (n : ℕ) → is_open (st.task n).job ≡ (a.tally n).pending

-- whatever an engine of the status st answers to a question is what the account says
pub record ToldBy (m : Meaning) (a : Account) (st : Status) : Type 0 where
  pub counts : (n : ℕ) (r : Result (ℕ × ℕ) Refusal) (st' : Status) → step.CountsAsked st n r st' → Tells m a (Counts n) (answer counted r)
  pub figures : (n : ℕ) (r : Result ℕ Refusal) (st' : Status) → step.FigureAsked st n r st' → Tells m a (Figure n) (answer Figured r)

-- a log of an engine that now has the status st
pub record Service (m : Meaning) (log : List Entry) (st : Status) : Type 0 where
  -- answered as the steps say, and no other answers are
  pub served : Served m log st
  pub only : Alone m log
  -- guaranteed after the last call and after each call before it
  pub guaranteed : Always (Guarantee m) log
  -- the engine holds the account, and tells it
  pub holds : Holds (account log) st
  pub tells : ToldBy m (account log) st
