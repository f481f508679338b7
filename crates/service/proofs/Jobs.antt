-- The engine's jobs as the busy window sees them.
use Rattle.std.proofs.Common.{◌≡◌, ℕ, ◌≤◌, cond, length, Some, None, Option, arith}
use Rattle.std.proofs.lemmas.Bool.Decides.{nat_tests}
use Rattle.tasks.specs.declared.line.Line.{Line}
use Rattle.tasks.specs.declared.job.Plan.{Plan}
use Rattle.tasks.specs.declared.job.Outcome.{Outcome}
use Rattle.tasks.specs.declared.job.Outcome.TheVariants.{Idle}
use Rattle.window.proofs.Pending as window
use Rattle.engine.specs.declared.state.OpenJob.{OpenJob}
use Rattle.engine.specs.Jobs.{is_open, begun, ending, heard, job_after}
use Rattle.engine.specs.Kept.{busy, left}
use Rattle.engine.proofs.Ticks.{on_left}

abbrev pub pending_of : Option OpenJob → window.Pending
pending_of None = window.free
pending_of (Some o) = window.busy o.plan (ending o.version) o.left

-- a job just released
pub begun_pending : (l : Line) (p : Plan) → pending_of (Some (begun l p)) ≡ window.just_released l p
begun_pending l p = grind arith

pub begun_lasts : (l : Line) (p : Plan) → 1 ≤ (begun l p).left
begun_lasts l p = grind (arith, l.ordered)

pub due_busy : (j : Option OpenJob) → length (window.due (pending_of j)) ≡ busy j
due_busy j = grind arith

pub busy_open : (j : Option OpenJob) → busy j ≡ cond (is_open j) 1 0
busy_open j = grind arith

-- ---- what a word does to an open job is what the window's tick does

module _ (l : Line) (o : OpenJob) (word : ℕ) (x : Outcome) (h : 1 ≤ o.left) (e : heard o word ≡ Some x) where
  pub heard_comes : window.Ticks l (pending_of (Some o)) x (pending_of (job_after l o x))
  heard_comes = grind (arith, nat_tests, window.goes_on, window.ends_due, window.ends_bad, window.recovers)

  -- what is left of a job has a tick left
  pub heard_lasts : busy (job_after l o x) ≤ left (job_after l o x)
  heard_lasts = grind (arith, on_left, l.ordered)

-- a tick to an open job is not idle
pub heard_busy : (o : OpenJob) (word : ℕ) → heard o word ≡ Some Idle → ⊥
heard_busy o word e = grind (arith, nat_tests)
