-- Jobs and the records of tasks: how a job starts, what a tick word does to it, and what is then left of it.
use Rattle.std.specs.Prelude.{ℕ, zero, suc, ◌+◌, ◌-◌, Bool, true, false, cond, Some, None, Option, nat_lt}
use Rattle.tasks.specs.declared.line.Line.{Line}
use Rattle.tasks.specs.declared.job.Plan.{Plan}
use Rattle.tasks.specs.declared.job.Plan.TheVariants as plan
use Rattle.tasks.specs.declared.job.Version.{Version}
use Rattle.tasks.specs.declared.job.Version.TheVariants.{Bare, Detect, Correct}
use Rattle.tasks.specs.declared.job.Ending.{Ending}
use Rattle.tasks.specs.declared.job.Ending.TheVariants.{Blind, Clean, Bad, Sure}
use Rattle.tasks.specs.declared.job.Outcome.{Outcome}
use Rattle.tasks.specs.declared.job.Outcome.TheVariants.{Idle, On, Again, Ended}
use Rattle.tasks.specs.Lines.{time}
use Rattle.policies.specs.Promises.{Meaning}
use Rattle.engine.specs.declared.state.OpenJob.{OpenJob}
use Rattle.engine.specs.declared.state.Task.{Task}

-- whether there is an open job
abbrev pub is_open : Option OpenJob → Bool
is_open None = false
is_open (Some o) = true

-- a task that was never released
abbrev pub unused : Task
unused = record { mark = 0; releases = 0; ends = 0; last = 0; job = None }

-- the first version of a plan
abbrev pub first : Plan → Version
first plan.Bare = Bare
first plan.Detect = Detect
first plan.Correct = Correct
first plan.Recover = Detect

-- a job of the line that was just released with a plan: its first version has all its ticks left
abbrev pub begun : Line → Plan → OpenJob
begun l p = record { plan = p; version = first p; left = time l (first p) }

-- the ending of a version that runs to its end without a detected fault
abbrev pub ending : Version → Ending
ending Bare = Blind
ending Detect = Clean
ending Correct = Sure

-- how a detected fault comes out: only the detecting version detects one. Under the plan D the job ends bad, under
-- DR the correcting version starts; None is a refusal
abbrev pub faulted : Version → Plan → Option Outcome
faulted Bare p = None
faulted Correct p = None
faulted Detect plan.Bare = None
faulted Detect plan.Detect = Some (Ended Bad)
faulted Detect plan.Correct = None
faulted Detect plan.Recover = Some Again

-- how a tick with a word comes out for an open job: 0 goes on, and needs a second tick left; 1 ends the version;
-- 2 ends it with a detected fault; None is a refusal
abbrev pub heard : OpenJob → ℕ → Option Outcome
heard o zero = cond (nat_lt 1 o.left) (Some On) None
heard o (suc zero) = Some (Ended (ending o.version))
heard o (suc (suc zero)) = faulted o.version o.plan
heard o (suc (suc (suc n))) = None

-- what then runs: one tick less is left, or the correcting version with all its ticks
abbrev pub running_after : Line → OpenJob → Outcome → OpenJob
running_after l o Idle = o
running_after l o On = record { plan = o.plan; version = o.version; left = o.left - 1 }
running_after l o Again = record { plan = o.plan; version = Correct; left = time l Correct }
running_after l o (Ended e) = o

-- what runs after a tick that was refused, or came out so
abbrev pub ran : Line → OpenJob → Option Outcome → OpenJob
ran l o None = o
ran l o (Some x) = running_after l o x

-- the job after a tick that came out so
abbrev pub job_after : Line → OpenJob → Outcome → Option OpenJob
job_after l o Idle = Some (running_after l o Idle)
job_after l o On = Some (running_after l o On)
job_after l o Again = Some (running_after l o Again)
job_after l o (Ended e) = None

-- the record with another job
abbrev pub with_job : Task → Option OpenJob → Task
with_job t j = record { mark = t.mark; releases = t.releases; ends = t.ends; last = t.last; job = j }

-- the record of a task that is released after `now` ticks
abbrev pub released : Task → ℕ → Option OpenJob → Task
released t now j = record { mark = t.mark; releases = t.releases + 1; ends = t.ends; last = now; job = j }

-- the record of a task after a tick to its open job: an end counts, and moves the mark by the policy
abbrev pub task_after : Meaning → Line → Task → OpenJob → Outcome → Task
task_after m l t o Idle = with_job t (job_after l o Idle)
task_after m l t o On = with_job t (job_after l o On)
task_after m l t o Again = with_job t (job_after l o Again)
task_after m l t o (Ended e) = record { mark = m.next l t.mark e; releases = t.releases; ends = t.ends + 1; last = t.last; job = job_after l o (Ended e) }
