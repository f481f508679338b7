-- Worked examples of readings, computed.
use Rattle.std.specs.Prelude.{◌≡◌, ℕ, zero, suc, List, [], ◌∷◌, ◌++◌, map, Ok, Err, codes, Result, refl}
use Rattle.words.specs.Sums.{sum_below}
use Rattle.words.specs.Bits.{word_of}
use Rattle.tasks.specs.Refused.{told, told_number}
use Rattle.tasks.specs.Rows.{Row}
use Rattle.tasks.specs.declared.refusal.Refusal.{Refusal}
use Rattle.tasks.specs.declared.technique.Technique.TheVariants.{Sre}
use Rattle.text.specs.Cuts.{Placed}
use Rattle.text.specs.Rules.{Rule, line_rules}
use Rattle.text.specs.Reading.{reading}

-- the numbers that the rules of a line are refused with, in order
in_order : (above : List Row) (l : Placed) (fs : List Placed) →
    map (λ (r : Rule). told_number r.otherwise) (line_rules above l fs) ≡ 7 ∷ 2 ∷ 3 ∷ 3 ∷ 3 ∷ 3 ∷ 4 ∷ 4 ∷ 3 ∷ 4 ∷ 3 ∷ 3 ∷ 4 ∷ 3 ∷ 4 ∷ 3 ∷ 4 ∷ 4 ∷ 6 ∷ 5 ∷ []
in_order above l fs = refl

-- number, line and place of the refusal, and zeros where there is none
abbrev refused : Result (List Row) Refusal → ℕ × ℕ × ℕ
refused (Ok rows) = (0, 0, 0)
refused (Err e) = told e

abbrev cam : Row
cam = record { name = codes "CAM"; technique = Sre; m = 2; k = 4; word = 10; bare = 10; detect = 11; correct = 20; period = 40 }

abbrev arm : Row
arm = record { name = codes "ARM"; technique = Sre; m = 1; k = 1; word = 1; bare = 30; detect = 40; correct = 50; period = 80 }

two_lines : reading (codes "CAM,SRE,2,4,E,10,11,20,40\nARM,SRE,1,1,R,30,40,50,80\n") ≡ Ok (cam ∷ arm ∷ [])
unfolding reading word_of sum_below
two_lines = refl

-- the same word as bits, bit 0 first
as_bits : reading (codes "CAM,SRE,2,4,0101,10,11,20,40\n") ≡ Ok (cam ∷ [])
unfolding reading
as_bits = refl

-- 1: no byte, and no line feed at the end
empty : refused (reading []) ≡ (1, 0, 0)
unfolding reading
empty = refl

unended : refused (reading (codes "A,FR,1,1,R,1,2,3,5")) ≡ (1, 0, 0)
unfolding reading
unended = refl

-- 2: eight fields, and an empty line
eight : refused (reading (codes "A,FR,1,1,R,1,2,3\n")) ≡ (2, 1, 0)
unfolding reading
eight = refl

blank : refused (reading (codes "A,FR,1,1,R,1,2,3,5\n\n")) ≡ (2, 2, 19)
unfolding reading word_of sum_below
blank = refl

-- 3: a name of nine bytes, a word that is no technique, a leading 0, a pattern, a carriage return
long_name : refused (reading (codes "ABCDEFGHI,FR,1,1,R,1,2,3,5\n")) ≡ (3, 1, 0)
unfolding reading
long_name = refl

small_letters : refused (reading (codes "A,fr,1,1,R,1,2,3,5\n")) ≡ (3, 1, 2)
unfolding reading
small_letters = refl

leading_zero : refused (reading (codes "A,FR,1,01,R,1,2,3,5\n")) ≡ (3, 1, 7)
unfolding reading
leading_zero = refl

no_pattern : refused (reading (codes "A,FR,1,1,RE,1,2,3,5\n")) ≡ (3, 1, 9)
unfolding reading
no_pattern = refl

carriage_return : refused (reading (codes "A,FR,1,1,R,1,2,3,5\r\n")) ≡ (3, 1, 17)
unfolding reading
carriage_return = refl

-- 4: two ones where m is 1, k above 64 at k, and r not above d at r
many_ones : refused (reading (codes "A,FR,1,2,11,1,2,3,5\n")) ≡ (4, 1, 9)
unfolding reading
many_ones = refl

wide : refused (reading (codes "A,FR,66,65,R,1,2,3,5\n")) ≡ (4, 1, 8)
unfolding reading
wide = refl

short_correction : refused (reading (codes "CAM,SRE,2,4,E,10,11,20,40\nARM,SRE,1,1,R,30,40,40,80\n")) ≡ (4, 2, 46)
unfolding reading
short_correction = refl

-- 5: a period below that of the line above
falling : refused (reading (codes "A,FR,1,1,R,1,2,3,5\nB,FR,1,1,R,1,2,3,4\n")) ≡ (5, 2, 36)
unfolding reading
falling = refl

-- 6 before 5: the name is used, and the period falls
twice : refused (reading (codes "A,FR,1,1,R,1,2,3,5\nA,FR,1,1,R,1,2,3,4\n")) ≡ (6, 2, 19)
unfolding reading
twice = refl

-- 7 before 2: an empty line 33; the letters A and up are the names
abbrev letters : ℕ → ℕ → List ℕ
letters b zero = []
letters b (suc n) = (b ∷ codes ",FR,1,1,R,1,2,3,5\n") ++ letters (suc b) n

line_33 : refused (reading (letters 65 26 ++ (letters 97 6 ++ codes "\n"))) ≡ (7, 33, 608)
unfolding reading
line_33 = refl
