-- Sums over places, in order and going round.
use Rattle.std.specs.Prelude.{◌≡◌, ℕ, zero, suc, ◌+◌, ◌%◌, ◌<◌, ◌≤◌, max}

-- f 0 + .. + f (n - 1)
unfoldable pub sum_below : (ℕ → ℕ) → ℕ → ℕ
sum_below f zero = 0
sum_below f (suc n) = sum_below f n + f n

-- the sum of n places in a row, from place j on, going round k places
unfoldable pub row : (ℕ → ℕ) → ℕ → ℕ → ℕ → ℕ
row c k j n = sum_below (λ x. c ((j + x) % k)) n

-- the greatest of f 0, .., f (n - 1), and 0 where there is none
unfoldable pub greatest_below : (ℕ → ℕ) → ℕ → ℕ
greatest_below f zero = 0
greatest_below f (suc n) = max (greatest_below f n) (f n)

-- the greatest sum of n places in a row, going round k places
unfoldable pub greatest_row : (ℕ → ℕ) → ℕ → ℕ → ℕ
greatest_row c k n = greatest_below (λ j. row c k j n) k

-- d is the greatest sum of n places in a row, going round k places: some start reaches it, and no start has more
pub record GreatestRow (c : ℕ → ℕ) (k n d : ℕ) : Type 0 where
  pub reached : (j : ℕ) × (j < k) × (row c k j n ≡ d)
  pub most : (j : ℕ) → row c k j n ≤ d
