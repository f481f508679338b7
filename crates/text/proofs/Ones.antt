-- The bits of a word that bytes write.
use Rattle.std.proofs.Common.{◌≡◌, ℕ, zero, suc, ◌+◌, ◌-◌, ◌*◌, ◌/◌, ◌%◌, ◌^◌, ◌<◌, true, leb, List, [], ◌∷◌, length, get_or, sym, refl, ap, ◌∙◌, mul_comm, pow-suc, arith}
use native.Mathlib.Nat.{div-div-eq-div-mul}
use Rattle.std.proofs.lemmas.Bool.{and_parts, and_from, leb-true, le-leb}
use Rattle.std.proofs.lemmas.Bool.Decides.{nat_tests}
use Rattle.words.specs.Sums.{sum_below}
use Rattle.words.specs.Bits.{ones, bit}
use Rattle.tasks.specs.Bytes.{every}
use Rattle.text.specs.Cuts.{count}
use Rattle.text.specs.Forms.{binary}
use Rattle.text.specs.Values.{bits_of}

bit_up : (b w n : ℕ) → b < 2 → bit (b + 2 * w) (suc n) ≡ bit w n
bit_up b w n h =
    let half : (b + 2 * w) / 2 ≡ w = omega arith in
    ap (λ x. (b + 2 * w) / x % 2) (pow-suc 2 n ∙ mul_comm (2 ^ n) 2) ∙ ap (λ x. x % 2) (sym (div-div-eq-div-mul (b + 2 * w) 2 (2 ^ n))) ∙ ap (λ x. x / 2 ^ n % 2) half

ones_up : (n b w : ℕ) → b < 2 → ones (suc n) (b + 2 * w) ≡ b + ones n w
unfolding sum_below
ones_up zero b w h = let e : (b + 2 * w) / 1 % 2 ≡ b = omega arith in omega arith
ones_up (suc n) b w h = omega (arith, ones_up n b w h, bit_up b w n h)

pub ones_bits : (bs : List ℕ) → every binary bs ≡ true → ones (length bs) (bits_of bs) ≡ count 49 bs
unfolding sum_below
ones_bits [] e = refl
ones_bits (b ∷ bs) e =
    let p = and_parts (binary b) (every binary bs) e in
    let q = and_parts (leb 48 b) (leb b 49) p.0 in
    let lo = leb-true 48 b q.0 in
    let hi = leb-true b 49 q.1 in
    let ih = ones_bits bs p.1 in
    let up = ones_up (length bs) (b - 48) (bits_of bs) (omega arith) in
    grind (arith, nat_tests)

-- byte j writes bit j
pub bits_at : (bs : List ℕ) → every binary bs ≡ true → (j : ℕ) → j < length bs → get_or bs j 0 ≡ 48 + bit (bits_of bs) j
bits_at [] e j h = absurd (omega arith)
bits_at (b ∷ bs) e zero h =
    let p = and_parts (binary b) (every binary bs) e in
    let q = and_parts (leb 48 b) (leb b 49) p.0 in
    let lo = leb-true 48 b q.0 in
    let hi = leb-true b 49 q.1 in
    omega arith
bits_at (b ∷ bs) e (suc j) h =
    let p = and_parts (binary b) (every binary bs) e in
    let q = and_parts (leb 48 b) (leb b 49) p.0 in
    let hi = leb-true b 49 q.1 in
    omega (arith, bits_at bs p.1 j (omega arith), bit_up (b - 48) (bits_of bs) j (omega arith))

-- bytes that write the bits of a word that has no others write the word
pub bits_back : (bs : List ℕ) (w : ℕ) → w < 2 ^ length bs → ((j : ℕ) → j < length bs → get_or bs j 0 ≡ 48 + bit w j) → (every binary bs ≡ true) × (bits_of bs ≡ w)
bits_back [] w h at = (refl, omega arith)
bits_back (b ∷ bs) w h at =
    let first : b ≡ 48 + w / 1 % 2 = at 0 (omega arith) in
    let half : w / 2 < 2 ^ length bs = omega (arith, pow-suc 2 (length bs)) in
    let whole : w % 2 + 2 * (w / 2) ≡ w = omega arith in
    let ih = bits_back bs (w / 2) half (λ j l. at (suc j) (omega arith) ∙ ap (λ x. 48 + bit x (suc j)) (sym whole) ∙ ap (λ x. 48 + x) (bit_up (w % 2) (w / 2) j (omega arith))) in
    (and_from (binary b) (every binary bs) (and_from (leb 48 b) (leb b 49) (le-leb 48 b (omega arith)) (le-leb b 49 (omega arith))) ih.0, omega (arith, ih.1))

pub bits_below : (bs : List ℕ) → every binary bs ≡ true → bits_of bs < 2 ^ length bs
bits_below [] e = omega arith
bits_below (b ∷ bs) e =
    let p = and_parts (binary b) (every binary bs) e in
    let ih = bits_below bs p.1 in
    let q = leb-true b 49 (and_parts (leb 48 b) (leb b 49) p.0).1 in
    rw pow-suc (omega arith)
