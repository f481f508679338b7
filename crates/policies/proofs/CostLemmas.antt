-- What bits cost, by the bounds that their costs keep, and a sum over places as a chain of an iterator makes it.
use Rattle.std.proofs.Common.{◌≡◌, ℕ, zero, suc, ◌+◌, ◌≤◌, map, sum, refl, ap, ◌∙◌, arith, add-one}
use Rattle.std.specs.List.{range_with_len}
use Rattle.std.proofs.lemmas.List.FromFn.{sum_by-map-range_with_len_more}
use Rattle.words.specs.Sums.{sum_below}
use Rattle.policies.specs.declared.costs.BitCosts.{BitCosts}
use Rattle.policies.specs.Promises.{most_per_job}
use Rattle.policies.specs.Patterns.{cost_at}
use Rattle.policies.specs.Costs.{cost_small}

pub costs_small : (c : BitCosts) (w x : ℕ) → cost_at c.zero c.one w x ≤ most_per_job
costs_small c w x = cost_small c.zero c.one w x c.small_zero c.small_one

pub sum-range : (f : ℕ → ℕ) (n : ℕ) → sum (map f (range_with_len 0 n)) ≡ sum_below f n
unfolding sum_below
sum-range f zero = refl
sum-range f (suc n) =
    let more : sum (map f (range_with_len 0 (n + 1))) ≡ sum (map f (range_with_len 0 n)) + f n = sum_by-map-range_with_len_more (λ (x : ℕ). x) f 0 n n (omega arith) in
    rw (add-one) at (more ∙ ap (λ t. t + f n) (sum-range f n))
