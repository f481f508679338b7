-- What fields stand for.
use Rattle.std.specs.Prelude.{◌≡◌, ℕ, ◌+◌, ◌-◌, ◌*◌, ◌≤◌, Bool, cond, ◌&&◌, ◌||◌, true, false, List, [], ◌∷◌, length, ◌==◌}
use Rattle.std.specs.Str.{bytes_eq}
use Rattle.words.specs.Patterns.{pattern_word}
use Rattle.words.specs.declared.patterns.Pattern.{Pattern}
use Rattle.words.specs.declared.patterns.Pattern.TheVariants as pattern
use Rattle.tasks.specs.Bytes.{every}
use Rattle.tasks.specs.Spelled.{technique_word}
use Rattle.tasks.specs.declared.technique.Technique.{Technique}
use Rattle.tasks.specs.declared.technique.Technique.TheVariants.{Fr, Sre, Sdr, Dre, Ddr}
use Rattle.text.specs.Cuts.{count}
use Rattle.text.specs.Forms.{binary, is_r, is_e}
use Rattle.text.specs.declared.value.PatternValue.{PatternValue}
use Rattle.text.specs.declared.value.PatternValue.TheVariants.{Ready, Bits}

-- the technique that a word names
abbrev pub technique_of : List ℕ → Technique
technique_of bs =
    cond (bytes_eq bs (technique_word Fr)) Fr
    (cond (bytes_eq bs (technique_word Sre)) Sre
    (cond (bytes_eq bs (technique_word Sdr)) Sdr
    (cond (bytes_eq bs (technique_word Dre)) Dre Ddr)))

-- the number that digits write, after those that write n
abbrev pub number_after : ℕ → List ℕ → ℕ
number_after n [] = n
number_after n (d ∷ ds) = number_after (n * 10 + (d - 48)) ds

-- the number that digits write
abbrev pub number_of : List ℕ → ℕ
number_of ds = number_after 0 ds

-- the word that bits write, bit 0 first
abbrev pub bits_of : List ℕ → ℕ
bits_of [] = 0
bits_of (b ∷ bs) = (b - 48) + 2 * bits_of bs

-- a bit string has k bits, of which m are 1
abbrev pub fits : ℕ → ℕ → List ℕ → Bool
fits m k bs = is_r bs || (is_e bs || (length bs == k && count 49 bs == m))

-- the word that a pattern field stands for, with m ones of k bits
abbrev pub field_word : ℕ → ℕ → List ℕ → ℕ
field_word m k bs = cond (is_r bs) (pattern_word pattern.R m k) (cond (is_e bs) (pattern_word pattern.E m k) (bits_of bs))

-- the field writes a ready-made pattern
abbrev pub SaysReady : List ℕ → Pattern → Type 0
SaysReady bs pattern.R = is_r bs ≡ true
SaysReady bs pattern.E = (is_r bs ≡ false) × (is_e bs ≡ true)

-- the field writes a ready-made pattern, or the bits of a word
abbrev pub SaysPattern : List ℕ → PatternValue → Type 0
SaysPattern bs (Ready p) = SaysReady bs p
SaysPattern bs (Bits count word) = (is_r bs ≡ false) × (is_e bs ≡ false) × (every binary bs ≡ true) × (count ≡ length bs) × (count ≤ 64) × (word ≡ bits_of bs)
