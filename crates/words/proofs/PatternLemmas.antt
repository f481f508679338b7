-- The R and the E pattern have just m ones.
use Rattle.std.proofs.Common.{◌≡◌, ℕ, zero, suc, ◌+◌, ◌-◌, ◌*◌, ◌/◌, ◌^◌, ◌<◌, ◌≤◌, true, false, cond, eqb, ltb, ap, ◌∙◌, ⊎_elim, mul-le-mul_right, mod-lt, suc-mul, mul_comm, div-add-mod', arith}
use Rattle.std.proofs.lemmas.Bool.{cases_lt, cases_Bool, ltb-true, ltb-false, eqb-true, eqb-false}
use Rattle.words.specs.Sums.{sum_below}
use Rattle.words.specs.Bits.{bit}
use Rattle.words.specs.Patterns.{up, e_zero, pattern_bit, Window, Follows}
use Rattle.words.specs.declared.patterns.Pattern.{Pattern}
use Rattle.words.specs.declared.patterns.Pattern.TheVariants.{R, E}
use Rattle.words.proofs.Sums.{sum_of_ones, sum_cong, sum_cong_below}
use Rattle.words.proofs.Words.{word_is}

-- ---- R

r_count : (m k n : ℕ) → sum_below (pattern_bit R m k) n ≡ n - (k - m)
unfolding sum_below
r_count m k zero = omega arith
r_count m k (suc n) =
    ⊎_elim
    (λ (t : ltb n (k - m) ≡ true). omega (arith, r_count m k n, ap (λ b. cond {A = ℕ} b 0 1) t, ltb-true n (k - m) t))
    (λ (f : ltb n (k - m) ≡ false). omega (arith, r_count m k n, ap (λ b. cond {A = ℕ} b 0 1) f, ltb-false n (k - m) f))
    (cases_Bool (ltb n (k - m)))

-- ---- E: of the first n bits, n × q ÷ k rounded up are zeros

times_within : (a b k : ℕ) → a * k < b * k + k → a ≤ b
times_within a b k h =
    ⊎_elim (λ (l : b < a). let m : suc b * k ≤ a * k = mul-le-mul_right k l in omega (arith, m, suc-mul b k)) (λ (l : a ≤ b). l) (cases_lt b a)

up_low : (x k : ℕ) → 0 < k → x ≤ up x k * k
up_low x k h = omega (arith, div-add-mod' (x + (k - 1)) k, mod-lt (x + (k - 1)) h)

up_high : (x k : ℕ) → 0 < k → up x k * k < x + k
up_high x k h = omega (arith, div-add-mod' (x + (k - 1)) k)

-- a zero is counted
step_zero : (q k n : ℕ) → 0 < q → q ≤ k → e_zero q k n ≡ true → up (suc n * q) k ≡ suc (up (n * q) k)
step_zero q k n p h t =
    let c = up (n * q) k in
    let d = up (suc n * q) k in
    let y = c * k in
    let some : 0 < k = omega arith in
    let e : n ≡ y / q = eqb-true n (y / q) t in
    let f : n * q ≡ y / q * q = ap (λ i. i * q) e in
    let s = suc-mul n q in
    let hi : y < suc n * q = omega (arith, div-add-mod' y q, mod-lt y p) in
    let more : suc c ≤ d = times_within (suc c) d k (omega (arith, suc-mul c k, up_low (suc n * q) k some)) in
    let less : d ≤ suc c = times_within d (suc c) k (omega (arith, suc-mul c k, up_high (suc n * q) k some, up_low (n * q) k some)) in
    omega arith

-- a one is not
step_one : (q k n : ℕ) → 0 < q → q ≤ k → e_zero q k n ≡ false → up (suc n * q) k ≡ up (n * q) k
step_one q k n p h t =
    let c = up (n * q) k in
    let d = up (suc n * q) k in
    let y = c * k in
    let some : 0 < k = omega arith in
    let s = suc-mul n q in
    let lo : n * q ≤ y = up_low (n * q) k some in
    let hi : suc n * q ≤ y = ⊎_elim (λ (l : y < suc n * q). absurd (eqb-false n (y / q) t (same l lo))) (λ (l : suc n * q ≤ y). l) (cases_lt y (suc n * q)) in
    let less : d ≤ c = times_within d c k (omega (arith, up_high (suc n * q) k some)) in
    let more : c ≤ d = times_within c d k (omega (arith, up_high (n * q) k some, up_low (suc n * q) k some)) in
    omega arith
  where
    same : up (n * q) k * k < suc n * q → n * q ≤ up (n * q) k * k → n ≡ up (n * q) k * k / q
    same l lo =
        let y = up (n * q) k * k in
        let a : n ≤ y / q = times_within n (y / q) q (omega (arith, div-add-mod' y q, mod-lt y p)) in
        let b : y / q ≤ n = times_within (y / q) n q (omega (arith, div-add-mod' y q, suc-mul n q)) in
        omega arith

e_count : (q k n : ℕ) → 0 < q → q ≤ k → sum_below (λ j. cond (e_zero q k j) 0 1) n + up (n * q) k ≡ n
unfolding sum_below
e_count q k zero p h =
    let some : 0 < k = omega arith in
    omega (arith, times_within (up (0 * q) k) 0 k (omega (arith, up_high (0 * q) k some)))
e_count q k (suc n) p h =
    ⊎_elim
    (λ (t : e_zero q k n ≡ true). omega (arith, e_count q k n p h, ap (λ b. cond {A = ℕ} b 0 1) t, step_zero q k n p h t))
    (λ (f : e_zero q k n ≡ false). omega (arith, e_count q k n p h, ap (λ b. cond {A = ℕ} b 0 1) f, step_one q k n p h f))
    (cases_Bool (e_zero q k n))

e_ones : (m k : ℕ) → Window m k → sum_below (pattern_bit E m k) k ≡ m
e_ones m k window =
    let q = k - m in
    ⊎_elim
    (λ (t : eqb (k - m) 0 ≡ true). omega (arith, sum_of_ones (pattern_bit E m k) (λ j. ap (λ b. cond b 1 (cond (e_zero q k j) 0 1)) t) k, eqb-true (k - m) 0 t, window))
    (λ (f : eqb (k - m) 0 ≡ false).
    let some : 0 < q = ⊎_elim (λ (l : 0 < q). l) (λ (l : q ≤ 0). absurd (eqb-false q 0 f (omega arith))) (cases_lt 0 q) in
    let full : 0 < k = omega (arith, window) in
    let least : q ≤ up (k * q) k = times_within q (up (k * q) k) k (omega (arith, up_low (k * q) k full, mul_comm k q)) in
    let most : up (k * q) k ≤ q = times_within (up (k * q) k) q k (omega (arith, up_high (k * q) k full, mul_comm k q)) in
    let same = sum_cong (pattern_bit E m k) (λ j. cond (e_zero q k j) 0 1) (λ j. ap (λ b. cond b 1 (cond (e_zero q k j) 0 1)) f) k in
    omega (arith, same, e_count q k k some (omega arith), least, most, window))
    (cases_Bool (eqb (k - m) 0))

-- ---- both

pattern_ones : (p : Pattern) (m k : ℕ) → Window m k → sum_below (pattern_bit p m k) k ≡ m
pattern_ones R m k window = omega (arith, r_count m k k, window)
pattern_ones E m k window = e_ones m k window

pub pattern_follows : (p : Pattern) (m k v : ℕ) → Window m k → ((j : ℕ) → j < k → bit v j ≡ pattern_bit p m k j) → v < 2 ^ k → Follows p m k v
pattern_follows p m k v window bits narrow = record {
  is = word_is (pattern_bit p m k) k v narrow bits;
  bits = bits;
  reliable = sum_cong_below (bit v) (pattern_bit p m k) k bits ∙ pattern_ones p m k window;
  narrow = narrow;
}
