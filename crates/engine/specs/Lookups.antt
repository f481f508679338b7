-- What the engine's own searches find: a task by its number, and the first open job.
use Rattle.std.specs.Prelude.{◌≡◌, ℕ, ◌-◌, ◌<◌, List, length, Some, None, Ok, Result, slice_index, slice_index_or}
use Rattle.tasks.specs.declared.refusal.Refusal.{Refusal}
use Rattle.engine.specs.declared.questions.Found.{Found}
use Rattle.engine.specs.declared.state.OpenJob.{OpenJob}
use Rattle.engine.specs.declared.state.Task.{Task}
use Rattle.engine.specs.Jobs.{unused}
use Rattle.engine.specs.Status.{Status}
use Rattle.engine.specs.Steps.{OfTask}

-- a task's place among the records, its line and its figure
abbrev pub TaskFound : Status → ℕ → Result Found Refusal → Status → Type 0
TaskFound st task = OfTask st task (λ ls l r st'. (r ≡ Ok (record { place = task - 1; line = l; figure = slice_index st.figures (task - 1) })) × (st' ≡ st))

-- the first of the records, from place 0, that has an open job is at place i, and its job is o
pub record FirstOpen (ts : List Task) (i : ℕ) (o : OpenJob) : Type 0 where
  pub within : i < length ts
  pub job : (slice_index_or ts i unused).job ≡ Some o
  pub before : (k : ℕ) → k < i → (slice_index_or ts k unused).job ≡ None
