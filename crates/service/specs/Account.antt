-- The account of a log: what its calls and their answers alone say of each task. A log has its newest entry first.
use Rattle.std.specs.Prelude.{ℕ, ◌+◌, Bool, true, false, List, [], ◌∷◌, ◌++◌, Some, None, Ok, Err, Option, Result}
use Rattle.tasks.specs.declared.line.Line.{Line}
use Rattle.tasks.specs.declared.job.Ending.{Ending}
use Rattle.tasks.specs.declared.job.Outcome.{Outcome}
use Rattle.tasks.specs.declared.job.Outcome.TheVariants.{Idle, On, Again, Ended}
use Rattle.tasks.specs.declared.refusal.Refusal.{Refusal}
use Rattle.tasks.specs.Tables.{lines_of}
use Rattle.engine.specs.Status.{put}
use Rattle.service.specs.declared.log.Call.{Call}
use Rattle.service.specs.declared.log.Call.TheVariants.{Open, Release, Tick, Counts, Figure}
use Rattle.service.specs.declared.log.Reply.{Reply}
use Rattle.service.specs.declared.log.Reply.TheVariants.{Opened, Planned, Ticked, Counted, Figured}
use Rattle.service.specs.declared.log.Entry.{Entry}

-- what is known of a task since the opening
pub record Tally : Type 0 where
  pub releases : ℕ
  -- how many ticks had been accepted at its last release
  pub last : ℕ
  -- how its jobs ended, the oldest first
  pub ends : List Ending
  -- it was released, and has not ended since
  pub pending : Bool

-- what is known of an engine and its tasks
pub record Account : Type 0 where
  -- the lines of the table that was opened
  pub lines : Option (List Line)
  -- how many ticks were accepted, whichever task got them, or none
  pub ticks : ℕ
  -- by the tasks' numbers
  pub tally : ℕ → Tally

-- no release, no end, no open job
abbrev pub untouched : Tally
untouched = record { releases = 0; last = 0; ends = []; pending = false }

-- one release more, after so many ticks, and an open job
abbrev pub with_release : ℕ → Tally → Tally
with_release now t = record { releases = t.releases + 1; last = now; ends = t.ends; pending = true }

-- an end adds its ending and closes the job; other outcomes add nothing
abbrev pub with_outcome : Outcome → Tally → Tally
with_outcome Idle t = t
with_outcome On t = t
with_outcome Again t = t
with_outcome (Ended e) t = record { releases = t.releases; last = t.last; ends = t.ends ++ e ∷ []; pending = false }

-- the task that a tick's answer names gets the outcome
abbrev pub with_reply : Reply → (ℕ → Tally) → ℕ → Tally
with_reply (Opened b) tally = tally
with_reply (Planned p) tally = tally
with_reply (Ticked n o) tally = put n (with_outcome o (tally n)) tally
with_reply (Counted x y) tally = tally
with_reply (Figured f) tally = tally

-- the account after a call with its answer: refused calls and questions change nothing
abbrev pub noted : Account → Call → Result Reply Refusal → Account
noted a (Open t) (Ok r) = record { lines = Some (lines_of t); ticks = a.ticks; tally = λ n. untouched }
noted a (Open t) (Err e) = a
noted a (Release n) (Ok r) = record { lines = a.lines; ticks = a.ticks; tally = put n (with_release a.ticks (a.tally n)) a.tally }
noted a (Release n) (Err e) = a
noted a (Tick w) (Ok r) = record { lines = a.lines; ticks = a.ticks + 1; tally = with_reply r a.tally }
noted a (Tick w) (Err e) = a
noted a (Counts n) r = a
noted a (Figure n) r = a

-- the account of a log; of the empty log, that nothing was opened
abbrev pub account : List Entry → Account
account [] = record { lines = None; ticks = 0; tally = λ n. untouched }
account (e ∷ log) = noted (account log) e.call e.answer
