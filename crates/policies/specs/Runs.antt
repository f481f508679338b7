-- Runs of a line: the endings of its jobs, each allowed by the plan at its mark.
use Rattle.std.specs.Prelude.{ℕ, ◌+◌, List, [], ◌∷◌}
use Rattle.tasks.specs.declared.line.Line.{Line}
use Rattle.tasks.specs.declared.job.Plan.{Plan}
use Rattle.tasks.specs.declared.job.Ending.{Ending}
use Rattle.policies.specs.Endings.{Allows, right, cost}

-- how many of the endings are right
abbrev pub rights : List Ending → ℕ
rights [] = 0
rights (e ∷ es) = right e + rights es

-- the plan at each mark, and the mark after each ending
module _ (plan : ℕ → Plan) (next : ℕ → Ending → ℕ) where
  -- the endings are a run from the mark; a run of a line starts at mark 0
  abbrev pub Run : ℕ → List Ending → Type 0
  Run mark [] = Unit {0}
  Run mark (e ∷ es) = Allows (plan mark) e × Run (next mark e) es

  -- the mark after the endings
  abbrev pub mark_after : ℕ → List Ending → ℕ
  mark_after mark [] = mark
  mark_after mark (e ∷ es) = mark_after (next mark e) es

  -- what the jobs of the line l that end so cost together, from the mark on
  abbrev pub costs : Line → ℕ → List Ending → ℕ
  costs l mark [] = 0
  costs l mark (e ∷ es) = cost l (plan mark) e + costs l (next mark e) es
