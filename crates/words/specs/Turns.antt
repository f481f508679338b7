-- A word turned left, going round its k bits, and the turn that rearranges it.
use Rattle.std.specs.Prelude.{◌≡◌, ℕ, zero, suc, ◌+◌, ◌-◌, ◌%◌, ◌^◌, ◌<◌, Bool, cond, ◌&&◌, ◌==◌, ◌≢◌}
use Rattle.words.specs.Bits.{bit, ones}

-- bit j of the word of k bits that is w turned left by s places
abbrev pub turned_bit : ℕ → ℕ → ℕ → ℕ → ℕ
turned_bit w k s j = bit w ((j + s) % k)

-- v is the word of k bits that is w turned left by s places: each bit, as many ones, nothing at and above k
pub record Turned (w k s v : ℕ) : Type 0 where
  pub bits : (j : ℕ) → j < k → bit v j ≡ turned_bit w k s j
  pub reliable : ones k v ≡ ones k w
  pub narrow : v < 2 ^ k

-- the place before j, going round k places
abbrev pub before : ℕ → ℕ → ℕ
before k zero = k - 1
before k (suc j) = j

-- bit j is 0, and the bit before it, going round, is 1
abbrev pub falls_at : ℕ → ℕ → ℕ → Bool
falls_at w k j = bit w j == 0 && bit w (before k j) == 1

-- the first of the n numbers from j on that passes, and 0 where none does
unfoldable pub first_from : (ℕ → Bool) → ℕ → ℕ → ℕ
first_from p j zero = 0
first_from p j (suc n) = cond (p j) j (first_from p (suc j) n)

-- by how many places a word of k bits is turned to be rearranged
unfoldable pub turn_of : ℕ → ℕ → ℕ
turn_of w k = first_from (falls_at w k) 0 k

-- s is by how many places the word w of k bits is turned to be rearranged: by none where every bit is 1, or
-- none; otherwise by the fewest for which bit s is 0 and the bit before it, going round, is 1
pub record Rearranges (w k s : ℕ) : Type 0 where
  pub whole : ones k w ≡ k → s ≡ 0
  pub empty : ones k w ≡ 0 → s ≡ 0
  pub within : 0 < k → s < k
  pub zero_here : 0 < ones k w → ones k w < k → bit w s ≡ 0
  pub one_before : 0 < ones k w → ones k w < k → bit w (before k s) ≡ 1
  pub fewest : (i : ℕ) → i < s → bit w i ≡ 0 → bit w (before k i) ≢ 1
