-- The words of patterns, and a word by its bits.
use Rattle.std.proofs.Common.{◌≡◌, ℕ, zero, suc, ◌%◌, ◌^◌, ◌≤◌, [], ◌∷◌, Some, None, Option, refl, ap, ◌∙◌, mod-eq_of_lt, arith, lit<, lit≤, pow_pos, MatchOption}
use native.Mathlib.Nat.{pow-succ'}
use lib.Arith.{mod-mul}
use Rattle.words.specs.declared.patterns.Pattern.{Pattern}
use Rattle.words.specs.Patterns.{Window, pattern_word, Follows}
use Rattle.words.specs.Sums.{sum_below}
use Rattle.words.specs.Bits.{bit, word_of}
use Rattle.words.specs.Turns.{Turned, turn_of, first_from}
use Rattle.words.specs.declared.patterns.Pattern.TheVariants.{R, E}
use Rattle.examples.specs.Words.{pattern_words}

-- what a window is told
pub told_word : (p : Pattern) (m k : ℕ) → Window m k → (r : Option ℕ) → MatchOption r (Window m k → ⊥) (λ w. Window m k × Follows p m k w) → r ≡ Some (pattern_word p m k)
told_word p m k h r c = grind arith

pub words_are : Some (pattern_word R 3 10) ∷ Some (pattern_word E 3 10) ∷ Some (pattern_word E 7 10) ∷ Some (pattern_word R 1 1) ∷ Some (pattern_word E 1 1) ∷ [] ≡ pattern_words
unfolding word_of sum_below
words_are = refl

pub turn_is : turn_of 19 5 ≡ 2
unfolding turn_of first_from
turn_is = refl

-- the first n bits of a number are what it leaves modulo 2 ^ n
low_bits : (w n : ℕ) → w % 2 ^ n ≡ word_of (bit w) n
unfolding word_of sum_below
low_bits w zero = omega arith
low_bits w (suc n) = ap (λ x. w % x) (pow-succ' 2 n) ∙ mod-mul w {m = 2} {c = 2 ^ n} (lit< tt) (pow_pos n) ∙ omega (arith, low_bits w n)

pub told_turned : (r : Option ℕ) → MatchOption r ((1 ≤ 5) × (5 ≤ 64) → ⊥) (λ w. (1 ≤ 5) × (5 ≤ 64) × Turned 19 5 (turn_of 19 5) w) → r ≡ Some 28
unfolding turn_of first_from word_of sum_below
told_turned None c = absurd (c (lit≤ tt, lit≤ tt))
told_turned (Some w) c =
    let t = c.2.bits in
    let is : w ≡ 28 = omega (arith, low_bits w 5, mod-eq_of_lt c.2.narrow, t 0 (lit< tt), t 1 (lit< tt), t 2 (lit< tt), t 3 (lit< tt), t 4 (lit< tt)) in
    ap (λ x. Some x) is
