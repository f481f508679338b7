-- Policies that go by the bits of a line's word, one after the other, going round.
use Rattle.std.specs.Prelude.{ℕ, zero, suc, ◌+◌, ◌%◌, Bool, true, false, cond}
use Rattle.words.specs.Sums.{greatest_row}
use Rattle.words.specs.Bits.{bit}
use Rattle.words.specs.Turns.{turned_bit}
use Rattle.tasks.specs.declared.line.Line.{Line}
use Rattle.tasks.specs.declared.job.Plan.{Plan}
use Rattle.tasks.specs.declared.job.Plan.TheVariants.{Bare, Detect, Correct, Recover}
use Rattle.tasks.specs.declared.job.Ending.{Ending}
use Rattle.tasks.specs.declared.job.Ending.TheVariants.{Blind, Clean, Bad, Sure}
use Rattle.policies.specs.declared.pattern.BitPlans.{BitPlans}
use Rattle.policies.specs.Endings.{worst}

-- the mark goes on after every ending that the plan allows, but for a clean one under Detect
abbrev pub moves : Plan → Ending → Bool
moves Bare Blind = true
moves Bare Clean = false
moves Bare Bad = false
moves Bare Sure = false
moves Detect Blind = false
moves Detect Clean = false
moves Detect Bad = true
moves Detect Sure = false
moves Correct Blind = false
moves Correct Clean = false
moves Correct Bad = false
moves Correct Sure = true
moves Recover Blind = false
moves Recover Clean = true
moves Recover Bad = false
moves Recover Sure = true

-- the plan of a bit, by the plans of a 0 and of a 1
abbrev pub plan_of_bit : BitPlans → ℕ → Plan
plan_of_bit p zero = p.on_zero
plan_of_bit p (suc b) = p.on_one

-- the plan at a mark: that of the bit at the mark modulo k of the word turned left by some places
abbrev pub pattern_plan : BitPlans → ℕ → Line → ℕ → Plan
pattern_plan p turn l mark = plan_of_bit p (turned_bit l.word l.k turn (mark % l.k))

-- the mark after an ending
abbrev pub pattern_next : BitPlans → ℕ → Line → ℕ → Ending → ℕ
pattern_next p turn l mark e = cond (moves (pattern_plan p turn l mark) e) ((mark + 1) % l.k) mark

-- what the bit at a place of a word costs, given what a 0 and a 1 cost
abbrev pub cost_of_bit : ℕ → ℕ → ℕ → ℕ
cost_of_bit zero_cost one_cost zero = zero_cost
cost_of_bit zero_cost one_cost (suc b) = one_cost

abbrev pub cost_at : ℕ → ℕ → ℕ → ℕ → ℕ
cost_at zero_cost one_cost w place = cost_of_bit zero_cost one_cost (bit w place)

-- what the bit at a place of a line's word costs: the most that a job of the bit's plan costs
abbrev pub bit_cost : BitPlans → Line → ℕ → ℕ
bit_cost p l place = cost_at (worst l p.on_zero) (worst l p.on_one) l.word place

-- the demand of n jobs: the greatest sum of n consecutive bits' costs, going round the word
abbrev pub pattern_demand : BitPlans → Line → ℕ → ℕ
pattern_demand p l n = greatest_row (bit_cost p l) l.k n
