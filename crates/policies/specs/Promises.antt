-- What a policy means, and what it promises of every line that it takes.
use Rattle.std.specs.Prelude.{◌≡◌, ℕ, ◌*◌, ◌^◌, ◌<◌, ◌≤◌, Bool, true, List, ◌++◌, length}
use Rattle.tasks.specs.declared.line.Line.{Line}
use Rattle.tasks.specs.declared.job.Plan.{Plan}
use Rattle.tasks.specs.declared.job.Ending.{Ending}
use Rattle.policies.specs.Runs.{Run, mark_after, costs, rights}

-- whether it takes a line, the plan at a mark, the mark after an ending, the demand of n jobs
pub record Meaning : Type 0 where
  pub takes : Line → Bool
  pub plan : Line → ℕ → Plan
  pub next : Line → ℕ → Ending → ℕ
  pub demand : Line → ℕ → ℕ

-- the meaning with these members
abbrev pub meant : (Line → Bool) → (Line → ℕ → Plan) → (Line → ℕ → Ending → ℕ) → (Line → ℕ → ℕ) → Meaning
meant t p n d = record { takes = t; plan = p; next = n; demand = d }

-- the most that a policy may demand for a job
abbrev pub most_per_job : ℕ
most_per_job = 2000000

-- how many jobs a demand may be asked for: fewer than this
abbrev pub jobs_end : ℕ
jobs_end = 2 ^ 32

-- any k endings in a row of a run hold at least m right ones
abbrev pub Reliable : Line → (ℕ → Plan) → (ℕ → Ending → ℕ) → Type 0
Reliable l plan next = (before window : List Ending) → Run plan next 0 (before ++ window) → length window ≡ l.k → l.m ≤ rights window

-- any n jobs in a row of a run cost at most the demand of n
abbrev pub Bounded : Line → (ℕ → Plan) → (ℕ → Ending → ℕ) → (ℕ → ℕ) → Type 0
Bounded l plan next demand = (before jobs : List Ending) → Run plan next 0 (before ++ jobs) → length jobs < jobs_end → costs plan next l (mark_after plan next 0 before) jobs ≤ demand (length jobs)

-- the demand never falls as the number of jobs grows
abbrev pub Rising : (ℕ → ℕ) → Type 0
Rising demand = (a b : ℕ) → a ≤ b → b < jobs_end → demand a ≤ demand b

-- n jobs demand at most n times the most for a job
abbrev pub Capped : (ℕ → ℕ) → Type 0
Capped demand = (n : ℕ) → n < jobs_end → demand n ≤ most_per_job * n

-- of one line
pub record Keeps (l : Line) (plan : ℕ → Plan) (next : ℕ → Ending → ℕ) (demand : ℕ → ℕ) : Type 0 where
  pub reliable : Reliable l plan next
  pub bounded : Bounded l plan next demand
  pub none : demand 0 ≡ 0
  pub rising : Rising demand
  pub capped : Capped demand

-- of every line that the policy takes
abbrev pub Promises : Meaning → Type 0
Promises p = (l : Line) → p.takes l ≡ true → Keeps l (p.plan l) (p.next l) (p.demand l)
