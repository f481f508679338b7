-- The R and the E pattern: words told by m and k alone.
use Rattle.std.specs.Prelude.{◌≡◌, ℕ, ◌+◌, ◌-◌, ◌*◌, ◌/◌, ◌^◌, ◌<◌, ◌≤◌, Bool, cond, ◌==◌, nat_lt}
use Rattle.words.specs.declared.patterns.Pattern.{Pattern}
use Rattle.words.specs.declared.patterns.Pattern.TheVariants.{R, E}
use Rattle.words.specs.Bits.{bit, ones, word_of}

-- a window of k jobs, of which m are to come out right
abbrev pub Window : ℕ → ℕ → Type 0
Window m k = (1 ≤ m) × (m ≤ k) × (k ≤ 64)

-- x ÷ y rounded up
abbrev pub up : ℕ → ℕ → ℕ
up x y = (x + (y - 1)) / y

-- bit j is a zero of the E pattern with q zeros, q above 0: j is c × k ÷ q rounded down, where c is
-- j × q ÷ k rounded up
abbrev pub e_zero : ℕ → ℕ → ℕ → Bool
e_zero q k j = j == up (j * q) k * k / q

-- bit j of the pattern with m ones of k bits: in R the zeros stand first; in E they are spread evenly,
-- and all bits are 1 where m = k
abbrev pub pattern_bit : Pattern → ℕ → ℕ → ℕ → ℕ
pattern_bit R m k j = cond (nat_lt j (k - m)) 0 1
pattern_bit E m k j = cond (k - m == 0) 1 (cond (e_zero (k - m) k j) 0 1)

-- the pattern's word
abbrev pub pattern_word : Pattern → ℕ → ℕ → ℕ
pattern_word p m k = word_of (pattern_bit p m k) k

-- w is the pattern's word: each bit by its formula, just m ones, nothing at and above k
pub record Follows (p : Pattern) (m k w : ℕ) : Type 0 where
  pub is : w ≡ pattern_word p m k
  pub bits : (j : ℕ) → j < k → bit w j ≡ pattern_bit p m k j
  pub reliable : ones k w ≡ m
  pub narrow : w < 2 ^ k
