-- Lemmas on sums below a number, and on rows that go round.
use Rattle.std.proofs.Common.{◌≡◌, ℕ, zero, suc, ◌+◌, ◌-◌, ◌%◌, ◌<◌, ◌≤◌, sym, refl, ap, ◌∙◌, ⊎_elim, add-zero, add_assoc, add-suc, mod-eq_of_lt, add_comm, zero-add, map, sum, arith}
use native.Mathlib.Nat.{mod-add-mod, add-mod_right}
use Rattle.std.specs.List.{range_with_len}
use Rattle.std.proofs.lemmas.Bool.{cases_lt}
use Rattle.std.proofs.lemmas.List.FromFn.{sum_by-map-range_with_len_more}
use Rattle.words.specs.Sums.{sum_below, row}

-- ---- sums

pub sum_cong_below : (f g : ℕ → ℕ) (n : ℕ) → ((x : ℕ) → x < n → f x ≡ g x) → sum_below f n ≡ sum_below g n
unfolding sum_below
sum_cong_below f g zero h = refl
sum_cong_below f g (suc n) h = omega (arith, sum_cong_below f g n (λ x l. h x (omega arith)), h n (omega arith))

pub sum_cong : (f g : ℕ → ℕ) → ((x : ℕ) → f x ≡ g x) → (n : ℕ) → sum_below f n ≡ sum_below g n
sum_cong f g h n = sum_cong_below f g n (λ x _. h x)

pub sum_split : (f : ℕ → ℕ) (a b : ℕ) → sum_below f (a + b) ≡ sum_below f a + sum_below (λ x. f (a + x)) b
unfolding sum_below
sum_split f a zero = simp add-zero
sum_split f a (suc b) = rw add-suc (omega (arith, sum_split f a b))

-- each place is part of the sum
pub sum_above : (f : ℕ → ℕ) (n j : ℕ) → j < n → f j ≤ sum_below f n
unfolding sum_below
sum_above f zero j h = omega arith
sum_above f (suc n) j h =
    ⊎_elim (λ (b : j < n). omega (arith, sum_above f n j b)) (λ (a : n ≤ j). let e : j ≡ n = omega arith in omega (arith, ap f e)) (cases_lt j n)

-- a sum that is not 0 has a place that is not
pub sum_some : (f : ℕ → ℕ) (n : ℕ) → 0 < sum_below f n → (j : ℕ) × (j < n) × (0 < f j)
unfolding sum_below
sum_some f zero h = absurd (omega arith)
sum_some f (suc n) h =
    ⊎_elim (λ (b : 0 < f n). (n, omega arith, b)) (λ (a : f n ≤ 0). let r = sum_some f n (omega arith) in (r.0, omega (arith, r.1), r.2)) (cases_lt 0 (f n))

pub sum_of_ones : (f : ℕ → ℕ) → ((x : ℕ) → f x ≡ 1) → (n : ℕ) → sum_below f n ≡ n
unfolding sum_below
sum_of_ones f h zero = refl
sum_of_ones f h (suc n) = omega (arith, sum_of_ones f h n, h n)

-- the zeros and the ones are all the places
pub zeros_and_ones : (b : ℕ → ℕ) → ((x : ℕ) → b x ≤ 1) → (n : ℕ) → sum_below (λ x. 1 - b x) n + sum_below b n ≡ n
unfolding sum_below
zeros_and_ones b small zero = refl
zeros_and_ones b small (suc n) = omega (arith, zeros_and_ones b small n, small n)

-- the sum of what f makes of a range of numbers
pub sum_range : (f : ℕ → ℕ) (n : ℕ) → sum (map f (range_with_len 0 n)) ≡ sum_below f n
unfolding sum_below
sum_range f zero = refl
sum_range f (suc n) =
    let e : suc n ≡ n + 1 = omega arith in
    ap (λ k. sum (map f (range_with_len 0 k))) e ∙ sum_by-map-range_with_len_more (λ x. x) f 0 n n (omega arith) ∙ ap (λ s. s + f n) (sum_range f n)

-- ---- rows: c is what a place counts, k how many places there are
module _ (c : ℕ → ℕ) (k : ℕ) where
  pub row_none : (j : ℕ) → row c k j 0 ≡ 0
  unfolding row sum_below
  row_none j = refl

  -- a row goes by where it starts, going round
  pub row_start : (i j n : ℕ) → i % k ≡ j % k → row c k i n ≡ row c k j n
  unfolding row
  row_start i j n e =
      sum_cong (λ x. c ((i + x) % k)) (λ x. c ((j + x) % k)) (λ x. ap c (sym (mod-add-mod i k x) ∙ ap (λ y. (y + x) % k) e ∙ mod-add-mod j k x)) n

  pub row_split : (j a b : ℕ) → row c k j (a + b) ≡ row c k j a + row c k (j + a) b
  unfolding row
  row_split j a b =
      let f : ℕ → ℕ = λ x. c ((j + x) % k) in
      let moved : sum_below (λ x. f (a + x)) b ≡ sum_below (λ x. c ((j + a + x) % k)) b = sum_cong (λ x. f (a + x)) (λ x. c ((j + a + x) % k)) (λ x. ap (λ y. c (y % k)) (sym (add_assoc j a x))) b in
      omega (arith, sum_split f a b, moved)

  -- a row from place 0 that goes round at most once
  pub row_front : (n : ℕ) → n ≤ k → row c k 0 n ≡ sum_below c n
  unfolding row
  row_front n h =
      sum_cong_below (λ x. c ((0 + x) % k)) c n (λ x l. let below : x < k = omega arith in ap c (ap (λ y. y % k) (zero-add x) ∙ mod-eq_of_lt below))

  -- once round, from wherever, is all the places
  pub row_round : (j : ℕ) → row c k j k ≡ sum_below c k
  row_round j =
      let flat = row_front k (omega arith) in
      let a = row_split 0 j k in
      let b = row_split 0 k j in
      let s : row c k 0 (j + k) ≡ row c k 0 (k + j) = ap (row c k 0) (add_comm j k) in
      let t : row c k (0 + k) j ≡ row c k 0 j = row_start (0 + k) 0 j (add-mod_right 0 k) in
      let u : row c k (0 + j) k ≡ row c k j k = ap (λ i. row c k i k) (zero-add j) in
      omega arith

  -- the places turned by s
  pub row_turned : (s j n : ℕ) → row (λ x. c ((x + s) % k)) k j n ≡ row c k (j + s) n
  unfolding row
  row_turned s j n =
      sum_cong (λ x. c (((j + x) % k + s) % k)) (λ x. c ((j + s + x) % k)) (λ x. ap c (mod-add-mod (j + x) k s ∙ ap (λ y. y % k) (omega arith))) n

-- turned places have the same sum
pub sum_turned : (c : ℕ → ℕ) (k s : ℕ) → sum_below (λ x. c ((x + s) % k)) k ≡ sum_below c k
sum_turned c k s = sym (row_front (λ x. c ((x + s) % k)) k k (omega arith)) ∙ row_turned c k s 0 k ∙ row_round c k (0 + s)
