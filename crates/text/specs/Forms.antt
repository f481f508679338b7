-- The forms of fields.
use Rattle.std.specs.Prelude.{ℕ, Bool, true, false, not, ◌&&◌, ◌||◌, List, [], ◌∷◌, length, ◌==◌, nat_le}
use Rattle.std.specs.Str.{bytes_eq}
use Rattle.tasks.specs.Bytes.{every, digit}
use Rattle.tasks.specs.Spelled.{technique_word}
use Rattle.tasks.specs.declared.technique.Technique.TheVariants.{Fr, Sre, Sdr, Dre, Ddr}
-- the form of a name stands with the names themselves
pub use Rattle.tasks.specs.Bytes.{is_name}

-- 0 or 1
abbrev pub binary : ℕ → Bool
binary b = nat_le 48 b && nat_le b 49

-- the first byte is not 0
abbrev pub no_leading_zero : List ℕ → Bool
no_leading_zero [] = true
no_leading_zero (b ∷ bs) = not (b == 48)

-- 1 to 7 digits, the first not 0
abbrev pub is_number : List ℕ → Bool
is_number bs = (nat_le 1 (length bs) && nat_le (length bs) 7) && (no_leading_zero bs && every digit bs)

-- 1 to 64 bytes 0 and 1
abbrev pub is_bits : List ℕ → Bool
is_bits bs = (nat_le 1 (length bs) && nat_le (length bs) 64) && every binary bs

-- the single byte c
abbrev pub is_byte : ℕ → List ℕ → Bool
is_byte c [] = false
is_byte c (b ∷ []) = b == c
is_byte c (b ∷ d ∷ bs) = false

-- R, E
abbrev pub is_r : List ℕ → Bool
is_r bs = is_byte 82 bs

abbrev pub is_e : List ℕ → Bool
is_e bs = is_byte 69 bs

-- R, E or bits
abbrev pub is_pattern : List ℕ → Bool
is_pattern bs = is_r bs || (is_e bs || is_bits bs)

-- one of the five words
abbrev pub is_technique : List ℕ → Bool
is_technique bs =
    bytes_eq bs (technique_word Fr)
    || (bytes_eq bs (technique_word Sre)
    || (bytes_eq bs (technique_word Sdr)
    || (bytes_eq bs (technique_word Dre)
    || bytes_eq bs (technique_word Ddr))))
