-- The bits of a word: bit j is worth 2 ^ j.
use Rattle.std.specs.Prelude.{ℕ, ◌*◌, ◌/◌, ◌%◌, ◌^◌}
use Rattle.words.specs.Sums.{sum_below}

-- bit j of w: 0 or 1
abbrev pub bit : ℕ → ℕ → ℕ
bit w j = w / 2 ^ j % 2

-- how many of the first n bits of w are 1
abbrev pub ones : ℕ → ℕ → ℕ
ones n w = sum_below (bit w) n

-- the word whose bit j is f j, for each j below n
unfoldable pub word_of : (ℕ → ℕ) → ℕ → ℕ
word_of f n = sum_below (λ j. f j * 2 ^ j) n
