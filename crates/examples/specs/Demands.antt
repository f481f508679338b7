-- What SRE demands with u = 10 and r = 20, by words of four bits with two ones.
use Rattle.std.specs.Prelude.{ℕ, List, [], ◌∷◌, Some, Option}
use Rattle.words.specs.Sums.{greatest_row}
use Rattle.tasks.specs.declared.line.Times.{Times}
use Rattle.tasks.specs.Lines.{Lawful}
use Rattle.policies.specs.Patterns.{cost_at}

-- u, d and r
abbrev pub cam_times : Times
cam_times = record { bare = 10; detect = 11; correct = 20 }

-- a line of the period 40 may have the word
abbrev pub FitWord : ℕ → Type 0
FitWord word = Lawful 2 4 word cam_times 40

-- the greatest sum of n bits in a row, a 0 at u and a 1 at r, going round the word
abbrev pub sre_demand : ℕ → ℕ → ℕ
sre_demand word n = greatest_row (cost_at 10 20 word) 4 n

-- by the word 0101 for 0, 1, 2 and 5 jobs, and by the word 0011 for 2
abbrev pub demands_told : List (Option ℕ)
demands_told = Some 0 ∷ Some 20 ∷ Some 30 ∷ Some 80 ∷ Some 40 ∷ []
