-- Lemmas on the bits of a word, and on a word made bit by bit.
use Rattle.std.proofs.Common.{◌≡◌, ℕ, zero, suc, ◌+◌, ◌-◌, ◌*◌, ◌/◌, ◌%◌, ◌^◌, ◌<◌, ◌≤◌, refl, sym, ap, ◌∙◌, mul-le-mul_right, mul_assoc, subst, below_more, mod-lt, mod-eq_of_lt, div-add-mod', arith, pow_mono}
use native.Mathlib.Nat.{pow-succ', div-eq_of_lt, add-mul-div_right, add-mul-mod_self_right, div-lt_iff_lt-mul}
use Rattle.std.proofs.lemmas.Nat.{pow_pos, pow-add}
use Rattle.words.specs.Sums.{sum_below}
use Rattle.words.specs.Bits.{bit, word_of}

-- a word below 2 ^ n has no bit at n and above
pub bit_past : (w n j : ℕ) → w < 2 ^ n → n ≤ j → bit w j ≡ 0
bit_past w n j h l =
    let p : 2 ^ n ≤ 2 ^ j = pow_mono l in
    let less : w < 2 ^ j = omega arith in
    ap (λ x. x % 2) (div-eq_of_lt less)

bit_high : (w n b : ℕ) → w < 2 ^ n → b ≤ 1 → bit (w + b * 2 ^ n) n ≡ b
bit_high w n b h s = ap (λ x. x % 2) (add-mul-div_right w b (pow_pos n)) ∙ omega (arith, div-eq_of_lt h)

bit_low : (w n b j : ℕ) → j < n → bit (w + b * 2 ^ n) j ≡ bit w j
bit_low w n b j h =
    let i = n - suc j in
    let e : n ≡ (i + 1) + j = omega arith in
    let x = b * 2 ^ i in
    let p : b * 2 ^ n ≡ x * 2 * 2 ^ j =
    ap (λ y. b * 2 ^ y) e ∙ ap (λ y. b * y) (pow-add 2 (i + 1) j ∙ ap (λ y. y * 2 ^ j) (pow-add 2 i 1)) ∙ sym (mul_assoc b (2 ^ i * 2) (2 ^ j)) ∙ ap (λ y. y * 2 ^ j) (sym (mul_assoc b (2 ^ i) 2)) in
    ap (λ y. (w + y) / 2 ^ j % 2) p ∙ ap (λ y. y % 2) (add-mul-div_right w (x * 2) (pow_pos j)) ∙ add-mul-mod_self_right (w / 2 ^ j) x 2

-- a word with one more bit above its n
pub narrow_more : (w n b : ℕ) → w < 2 ^ n → b ≤ 1 → w + b * 2 ^ n < 2 ^ (n + 1)
narrow_more w n b narrow small =
    let e : n + 1 ≡ suc n = omega arith in
    omega (arith, mul-le-mul_right (2 ^ n) small, pow-succ' 2 n, ap (λ k. 2 ^ k) e)

-- one more bit fits a word of 64
pub bit_fits : (w n b : ℕ) → n < 64 → w < 2 ^ n → b ≤ 1 → b * 2 ^ n < 2 ^ 64
bit_fits w n b h narrow small =
    let m : n + 1 ≤ 64 = omega arith in
    omega (arith, narrow_more w n b narrow small, pow_mono m)

-- a word that grows by a bit: what holds of its bits holds of those of the word with one more
pub bits_more : (P : ℕ → ℕ → Type 0) (w n b : ℕ) → w < 2 ^ n → b ≤ 1 → ((j : ℕ) → j < n → P j (bit w j)) → P n b → (j : ℕ) → j < n + 1 → P j (bit (w + b * 2 ^ n) j)
bits_more P w n b narrow small old new =
    below_more
    (λ j. P j (bit (w + b * 2 ^ n) j))
    n
    (λ j h. subst (P j) (sym (bit_low w n b j h)) (old j h))
    (subst (P n) (sym (bit_high w n b narrow small)) new)

-- a word below 2 ^ n is told by its first n bits
pub word_is : (f : ℕ → ℕ) (n w : ℕ) → w < 2 ^ n → ((j : ℕ) → j < n → bit w j ≡ f j) → w ≡ word_of f n
unfolding word_of sum_below
word_is f zero w narrow bits = omega arith
word_is f (suc n) w narrow bits =
    let b = bit w n in
    let v = w % 2 ^ n in
    let below : w < 2 * 2 ^ n = omega (arith, pow-succ' 2 n) in
    let top : w / 2 ^ n < 2 = (div-lt_iff_lt-mul (pow_pos n)).1 below in
    let one : b ≡ w / 2 ^ n = mod-eq_of_lt top in
    let parts : w ≡ v + b * 2 ^ n = omega (arith, div-add-mod' w (2 ^ n), ap (λ x. x * 2 ^ n) one) in
    let low : v ≡ word_of f n = word_is f n v (mod-lt w (pow_pos n)) (λ j h. sym (bit_low v n b j h) ∙ ap (λ x. bit x j) (sym parts) ∙ bits j (omega arith)) in
    omega (arith, low, parts, ap (λ x. x * 2 ^ n) (bits n (omega arith)))

-- a word made of bits has them, and nothing above
pub word_made : (f : ℕ → ℕ) → ((j : ℕ) → f j ≤ 1) → (n : ℕ) → (word_of f n < 2 ^ n) × ((j : ℕ) → j < n → bit (word_of f n) j ≡ f j)
unfolding word_of sum_below
word_made f small zero = (omega arith, λ j h. absurd (omega arith))
word_made f small (suc n) =
    let p = word_made f small n in
    let e : suc n ≡ n + 1 = omega arith in (
      omega (arith, narrow_more (word_of f n) n (f n) p.0 (small n), ap (λ k. 2 ^ k) e),
      λ j h. bits_more (λ i x. x ≡ f i) (word_of f n) n (f n) p.0 (small n) p.1 refl j (omega arith),
    )
