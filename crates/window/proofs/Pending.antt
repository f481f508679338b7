-- The open job of a task as the busy window sees it, what a tick makes of it, and the load of a level.
use Rattle.std.proofs.Common.{ℕ, zero, suc, ◌+◌, ◌<◌, ◌≤◌, List, [], ◌∷◌}
use Rattle.words.specs.Patterns.{up}
use Rattle.tasks.specs.declared.line.Line.{Line}
use Rattle.tasks.specs.declared.job.Plan.{Plan}
use Rattle.tasks.specs.declared.job.Plan.TheVariants.{Bare, Detect, Correct, Recover}
use Rattle.tasks.specs.declared.job.Version.TheVariants.{Bare as U, Detect as D, Correct as R}
use Rattle.tasks.specs.declared.job.Ending.{Ending}
use Rattle.tasks.specs.declared.job.Ending.TheVariants.{Blind, Clean, Bad, Sure}
use Rattle.tasks.specs.declared.job.Outcome.{Outcome}
use Rattle.tasks.specs.declared.job.Outcome.TheVariants.{Idle, On, Again, Ended}
use Rattle.tasks.specs.Lines.{time}
use Rattle.policies.specs.Promises.{Meaning}

-- A task has no job, or one with its plan, the ending that is due if no fault is detected, and the ticks left.
-- The ending due names the version that runs: Blind the bare one, Clean the detecting one, Sure the correcting one.
pub data Pending : Type 0 where
  free : Pending
  busy : Plan → Ending → ℕ → Pending

-- the ending that is due while the first version of a plan runs
abbrev pub first_ending : Plan → Ending
first_ending Bare = Blind
first_ending Detect = Clean
first_ending Correct = Sure
first_ending Recover = Clean

-- the most ticks of the version that ends so
abbrev pub due_time : Line → Ending → ℕ
due_time l Blind = time l U
due_time l Clean = time l D
due_time l Bad = time l D
due_time l Sure = time l R

-- the job of a task just released with a plan
abbrev pub just_released : Line → Plan → Pending
just_released l p = busy p (first_ending p) (due_time l (first_ending p))

-- the ending that is due: none or one
abbrev pub due : Pending → List Ending
due free = []
due (busy p e k) = e ∷ []

-- the ticks left
abbrev pub left : Pending → ℕ
left free = 0
left (busy p e k) = k

-- what one tick makes of a job, and how the tick comes out
pub data Ticks (l : Line) : Pending → Outcome → Pending → Type 0 where
  goes_on : (p : Plan) (e : Ending) (k : ℕ) → 1 ≤ k → Ticks l (busy p e (k + 1)) On (busy p e k)
  -- a job may end before its worst-case time
  ends_due : (p : Plan) (e : Ending) (k : ℕ) → 1 ≤ k → Ticks l (busy p e k) (Ended e) free
  -- a fault was detected, and the plan does not correct it
  ends_bad : (k : ℕ) → 1 ≤ k → Ticks l (busy Detect Clean k) (Ended Bad) free
  -- a fault was detected, and the correcting version starts
  recovers : (k : ℕ) → 1 ≤ k → Ticks l (busy Recover Clean k) Again (busy Recover Sure (time l R))

-- the endings that a tick adds to those of its task: none or one
abbrev pub added : Outcome → List Ending
added Idle = []
added On = []
added Again = []
added (Ended e) = e ∷ []

-- f 0 + f 1 + .. + f (n - 1)
abbrev pub upto : ℕ → (ℕ → ℕ) → ℕ
upto zero f = 0
upto (suc n) f = upto n f + f n

module _ (m : Meaning) (line : ℕ → Line) where
  -- one job of line i, and what the lines above may ask for within t ticks
  abbrev pub load : ℕ → ℕ → ℕ
  load i t = m.demand (line i) 1 + upto i (λ h. m.demand (line h) (up t (line h).period))

  -- r is 0, or a time from 1 to the period by which the load of line i is met
  abbrev pub Meets : ℕ → ℕ → Type 0
  Meets i r = 0 < r → (r ≤ (line i).period) × (load i r ≤ r)
