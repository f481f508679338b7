-- The endings that a plan allows, which of them are right, and what a job costs.
use Rattle.std.specs.Prelude.{ℕ, ◌+◌}
use Rattle.tasks.specs.declared.line.Line.{Line}
use Rattle.tasks.specs.declared.job.Plan.{Plan}
use Rattle.tasks.specs.declared.job.Plan.TheVariants.{Bare, Detect, Correct, Recover}
use Rattle.tasks.specs.declared.job.Version.TheVariants.{Bare as U, Detect as D, Correct as R}
use Rattle.tasks.specs.declared.job.Ending.{Ending}
use Rattle.tasks.specs.declared.job.Ending.TheVariants.{Blind, Clean, Bad, Sure}
use Rattle.tasks.specs.Lines.{time}

-- how a job of a plan may end
pub data Allows : Plan → Ending → Type 0 where
  bare_blind : Allows Bare Blind
  detect_clean : Allows Detect Clean
  detect_bad : Allows Detect Bad
  correct_sure : Allows Correct Sure
  recover_clean : Allows Recover Clean
  -- after a recovery
  recover_sure : Allows Recover Sure

-- 1 if the ending is right, otherwise 0
abbrev pub right : Ending → ℕ
right Blind = 0
right Clean = 1
right Bad = 0
right Sure = 1

-- what a job costs, by its plan and how it ended
abbrev pub cost : Line → Plan → Ending → ℕ
cost l Bare e = time l U
cost l Detect e = time l D
cost l Correct e = time l R
cost l Recover Blind = time l D
cost l Recover Clean = time l D
cost l Recover Bad = time l D
cost l Recover Sure = time l D + time l R

-- the most that a job of a plan costs
abbrev pub worst : Line → Plan → ℕ
worst l Bare = time l U
worst l Detect = time l D
worst l Correct = time l R
worst l Recover = time l D + time l R
