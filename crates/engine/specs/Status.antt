-- The status of an engine: what its calls go by.
use Rattle.std.specs.Prelude.{ℕ, zero, suc, cond, List, replicate, Some, None, Option, ◌==◌, slice_index_or}
use Rattle.tasks.specs.declared.line.Line.{Line}
use Rattle.tasks.specs.Tables.{lines_of}
use Rattle.engine.specs.declared.state.Task.{Task}
use Rattle.engine.specs.declared.state.Setup.{Setup}
use Rattle.engine.specs.declared.state.State.{State}
use Rattle.engine.specs.Jobs.{unused}

-- the most ticks that an engine accepts
abbrev pub most_ticks : ℕ
most_ticks = 1000000000000000

-- what an engine's calls go by
pub record Status : Type 0 where
  -- the lines of the open table; none while the engine is shut
  pub lines : Option (List Line)
  -- 32 places for the response figures of its lines, 0 past the last
  pub figures : List ℕ
  -- how many ticks were accepted
  pub ticks : ℕ
  -- the records of the tasks by their numbers, from 1
  pub task : ℕ → Task

-- an engine that was just made
abbrev pub new_status : Status
new_status = record { lines = None; figures = replicate 32 0; ticks = 0; task = λ n. unused }

-- f with x at n
abbrev pub put : {A : Type 0} → ℕ → A → (ℕ → A) → ℕ → A
put n x f k = cond (k == n) x (f k)

-- ---- the status that an engine's state holds

-- the lines of the table that is open
abbrev pub open_lines : Option Setup → Option (List Line)
open_lines None = None
open_lines (Some s) = Some (lines_of s.table)

-- the figures of its lines; all 0 while the engine is shut
abbrev pub open_figures : Option Setup → List ℕ
open_figures None = replicate 32 0
open_figures (Some s) = s.figures

-- the record with the number n; there is no number 0
abbrev pub task_of : List Task → ℕ → Task
task_of ts zero = unused
task_of ts (suc i) = slice_index_or ts i unused

-- the status of an engine with this state
abbrev pub status_of : State → Status
status_of s = record { lines = open_lines s.setup; figures = open_figures s.setup; ticks = s.ticks; task = task_of s.tasks }
