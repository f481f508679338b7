-- What every engine keeps from call to call, so that no count overflows and an open job has a tick left.
use Rattle.std.specs.Prelude.{ℕ, ◌+◌, ◌≤◌, Some, None, Option}
use Rattle.engine.specs.declared.state.OpenJob.{OpenJob}
use Rattle.engine.specs.declared.state.Task.{Task}

-- how many jobs are open: none or one
abbrev pub busy : Option OpenJob → ℕ
busy None = 0
busy (Some o) = 1

-- the ticks left to it
abbrev pub left : Option OpenJob → ℕ
left None = 0
left (Some o) = o.left

-- the most ticks that a version has
abbrev pub most_left : ℕ
most_left = 1000000

-- of the record of a task when so many ticks were accepted
abbrev pub Fair : ℕ → Task → Type 0
Fair ticks t = (t.ends + busy t.job ≤ t.releases) × (t.releases ≤ t.last + 1) × (t.last ≤ ticks) × (busy t.job ≤ left t.job) × (left t.job ≤ most_left)
