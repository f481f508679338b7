-- A release, told by the record of its task at its place.
use Rattle.std.proofs.Common.{◌≡◌, ℕ, ◌+◌, ◌<◌, length, true, get_or, set, None, Some, Ok, Err, sym, refl, ap, ◌∙◌, subst, arith}
use Rattle.std.specs.Option.{is_some}
use Rattle.tasks.specs.declared.line.Line.{Line}
use Rattle.tasks.specs.declared.job.Plan.{Plan}
use Rattle.tasks.specs.declared.refusal.Refusal.TheVariants.{TooEarly, JobOpen}
use Rattle.policies.specs.Promises.{Meaning}
use Rattle.engine.specs.declared.questions.Found.{Found}
use Rattle.engine.specs.declared.state.Task.{Task}
use Rattle.engine.specs.declared.state.State.{State}
use Rattle.engine.specs.Jobs.{unused, begun, released}
use Rattle.engine.specs.Status.{Status, task_of, put, status_of}
use Rattle.engine.specs.Steps.{Rested, Release, early, still_open, starts, of_line}
use Rattle.engine.proofs.Tasks.{task_set}
use Rattle.engine.proofs.Found.{Named, held_at, some_of, status_eq}

-- a task that is not rested was released, less than a period ago
unrested : (now : ℕ) (l : Line) (t : Task) → (Rested now l t → ⊥) → (0 < t.releases) × (now < t.last + l.period)
unrested now l t no-rest = grind arith

module _ (m : Meaning) (s : State) (task : ℕ) (x : Found) (f : Named (status_of s) task x) where
  -- the record of the task
  abbrev held : Task
  held = get_or s.tasks x.place unused

  at : held ≡ task_of s.tasks task
  at = held_at s task x f

  pub too_early : (Rested s.ticks x.line held → ⊥) → Release m (status_of s) task (Err TooEarly) (status_of s)
  too_early no-rest =
      let u = unrested s.ticks x.line held no-rest in
      of_line f.there f.line (early refl (subst (λ (t : Task). 0 < t.releases) at u.0) (subst (λ (t : Task). s.ticks < t.last + x.line.period) at u.1))

  pub job_open : Rested s.ticks x.line held → is_some held.job ≡ true → Release m (status_of s) task (Err JobOpen) (status_of s)
  job_open rested some =
      let j = some_of held.job some in
      of_line f.there f.line (still_open refl (subst (Rested s.ticks x.line) at rested) (subst (λ (t : Task). t.job ≡ Some j.0) at j.1))

  pub accepted : (p : Plan) → x.place < length s.tasks → Rested s.ticks x.line held → held.job ≡ None → p ≡ m.plan x.line held.mark
      → Release m (status_of s) task (Ok p) (status_of (record { setup = s.setup; tasks = set s.tasks x.place (released held s.ticks (Some (begun x.line p))); ticks = s.ticks }))
  accepted p room rested closed planned =
      let was : Status = status_of s in
      let new : Task → Task = λ t. released t s.ticks (Some (begun x.line p)) in
      let step : Release m was task (Ok p) (record { lines = was.lines; figures = was.figures; ticks = was.ticks; task = put task (new (was.task task)) was.task }) =
      of_line f.there f.line (starts (subst (Rested s.ticks x.line) at rested) (subst (λ (t : Task). t.job ≡ None) at closed) (planned ∙ ap (λ (t : Task). m.plan x.line t.mark) at)) in
      let records : put task (new (was.task task)) was.task ≡ task_of (set s.tasks x.place (new held)) =
      ap (λ (t : Task). put task (new t) was.task) (sym at) ∙ sym (task_set s.tasks task x.place (new held) f.line.0.0 f.place room) in
      subst (Release m was task (Ok p)) (status_eq (record { lines = was.lines; figures = was.figures; ticks = was.ticks; task = put task (new (was.task task)) was.task }) _ refl refl refl records) step
