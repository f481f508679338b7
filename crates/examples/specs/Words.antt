-- Words: patterns, and a word rearranged. Bit 0 is written first.
use Rattle.std.specs.Prelude.{ℕ, List, [], ◌∷◌, Some, codes, Option}
use Rattle.text.specs.Values.{bits_of}

-- R(3,10), E(3,10), E(7,10), R(1,1) and E(1,1)
abbrev pub pattern_words : List (Option ℕ)
pattern_words =
    Some (bits_of (codes "0000000111"))
    ∷ Some (bits_of (codes "0001001001"))
    ∷ Some (bits_of (codes "0110110111"))
    ∷ Some (bits_of (codes "1"))
    ∷ Some (bits_of (codes "1"))
    ∷ []

-- 11001 is turned by two places, to 00111
abbrev pub rearranged_word : ℕ × Option ℕ
rearranged_word = (2, Some (bits_of (codes "00111")))
