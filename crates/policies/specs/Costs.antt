-- What the bits of a word cost, given what a 0 and a 1 cost.
use Rattle.std.specs.Prelude.{◌≡◌, ℕ, zero, suc, ◌+◌, ◌-◌, ◌*◌, ◌≤◌}
use Rattle.std.proofs.Common.{ap, suc-mul, add-mul, arith}
use Rattle.words.specs.Sums.{sum_below}
use Rattle.words.specs.Bits.{bit, ones}
use Rattle.policies.specs.Promises.{most_per_job}
use Rattle.policies.specs.Patterns.{cost_of_bit, cost_at}

one_small : (z o b : ℕ) → z ≤ most_per_job → o ≤ most_per_job → cost_of_bit z o b ≤ most_per_job
one_small z o zero h k = h
one_small z o (suc b) h k = k

pub cost_small : (z o w x : ℕ) → z ≤ most_per_job → o ≤ most_per_job → cost_at z o w x ≤ most_per_job
cost_small z o w x h k = one_small z o (bit w x) h k

-- a bit costs as a 0, and where it is 1 as a 1 instead
one_cost : (z o b : ℕ) → b ≤ 1 → cost_of_bit z o b + b * z ≡ z + b * o
one_cost z o zero h = omega arith
one_cost z o (suc zero) h = omega arith
one_cost z o (suc (suc b)) h = absurd (omega arith)

sum_costs : (z o w n : ℕ) → sum_below (cost_at z o w) n + ones n w * z ≡ n * z + ones n w * o
unfolding sum_below
sum_costs z o w zero = omega arith
sum_costs z o w (suc n) =
    omega (arith, sum_costs z o w n, one_cost z o (bit w n) (omega arith), suc-mul n z, add-mul (ones n w) (bit w n) z, add-mul (ones n w) (bit w n) o)

-- all the bits together: the ones, and the zeros
pub round_cost : (z o w k m : ℕ) → ones k w ≡ m → m ≤ k → m * o + (k - m) * z ≡ sum_below (cost_at z o w) k
round_cost z o w k m e h =
    let parts : (k - m) + m ≡ k = omega arith in
    omega (arith, sum_costs z o w k, ap (λ x. x * z) e, ap (λ x. x * o) e, add-mul (k - m) m z, ap (λ x. x * z) parts)
