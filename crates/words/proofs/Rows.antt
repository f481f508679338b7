-- Lemmas on rows of places that go round, and on the greatest of them.
use Rattle.std.proofs.Common.{◌≡◌, ℕ, zero, suc, ◌+◌, ◌-◌, ◌*◌, ◌/◌, ◌%◌, ◌<◌, ◌≤◌, max, sym, refl, ap, ◌∙◌, ⊎_elim, add-zero, mod-lt, mod-eq_of_lt, suc-mul, div-add-mod', zero-add, add-one, arith}
use native.Mathlib.Nat.{add-mod_right, mod-mod}
use Rattle.std.proofs.lemmas.Bool.{cases_lt}
use Rattle.words.specs.Sums.{sum_below, greatest_below, row, greatest_row, GreatestRow}
use Rattle.words.proofs.Sums.{row_none, row_start, row_split, row_round}

pub sum_bound : (f : ℕ → ℕ) (b : ℕ) → ((x : ℕ) → f x ≤ b) → (n : ℕ) → sum_below f n ≤ n * b
unfolding sum_below
sum_bound f b h zero = omega arith
sum_bound f b h (suc n) = omega (arith, sum_bound f b h n, h n, suc-mul n b)

-- ---- the greatest of some numbers

greatest_above : (f : ℕ → ℕ) (n j : ℕ) → j < n → f j ≤ greatest_below f n
unfolding greatest_below
greatest_above f zero j h = omega arith
greatest_above f (suc n) j h =
    ⊎_elim (λ (b : j < n). omega (arith, greatest_above f n j b)) (λ (a : n ≤ j). let e : j ≡ n = omega arith in omega (arith, ap f e)) (cases_lt j n)

greatest_within : (f : ℕ → ℕ) (n b : ℕ) → ((j : ℕ) → j < n → f j ≤ b) → greatest_below f n ≤ b
unfolding greatest_below
greatest_within f zero b h = omega arith
greatest_within f (suc n) b h = omega (arith, greatest_within f n b (λ j l. h j (omega arith)), h n (omega arith))

greatest_cong : (f g : ℕ → ℕ) → ((x : ℕ) → f x ≡ g x) → (n : ℕ) → greatest_below f n ≡ greatest_below g n
unfolding greatest_below
greatest_cong f g h zero = refl
greatest_cong f g h (suc n) = omega (arith, greatest_cong f g h n, h n)

greatest_shift : (t : ℕ) (f : ℕ → ℕ) (n : ℕ) → 0 < n → greatest_below (λ j. t + f j) n ≡ t + greatest_below f n
unfolding greatest_below
greatest_shift t f zero h = omega arith
greatest_shift t f (suc zero) h = omega arith
greatest_shift t f (suc (suc n)) h = omega (arith, greatest_shift t f (suc n) (omega arith))

greatest_reached : (f : ℕ → ℕ) (n : ℕ) → 0 < n → (j : ℕ) × (j < n) × (f j ≡ greatest_below f n)
unfolding greatest_below
greatest_reached f zero h = absurd (omega arith)
greatest_reached f (suc zero) h = (0, omega arith, omega arith)
greatest_reached f (suc (suc n)) h =
    let r = greatest_reached f (suc n) (omega arith) in
    ⊎_elim
    (λ (l : greatest_below f (suc n) < f (suc n)). (suc n, omega arith, omega arith))
    (λ (l : f (suc n) ≤ greatest_below f (suc n)). (r.0, omega (arith, r.1), omega (arith, r.2)))
    (cases_lt (greatest_below f (suc n)) (f (suc n)))

-- ---- rows: c is what a place counts, k how many places there are
module _ (c : ℕ → ℕ) (k : ℕ) where
  pub row_mod : (j n : ℕ) → row c k (j % k) n ≡ row c k j n
  row_mod j n = row_start c k (j % k) j n (mod-mod j k)

  -- one place more at the end
  pub row_last : (j n : ℕ) → row c k j (suc n) ≡ row c k j n + c ((j + n) % k)
  unfolding row sum_below
  row_last j n = refl

  -- the first place apart
  pub row_first : (j n : ℕ) → row c k j (suc n) ≡ c (j % k) + row c k (suc j) n
  row_first j n =
      let one : row c k j 1 ≡ c (j % k) = row_last j 0 ∙ simp (add-zero, row_none, zero-add) in
      let e : suc n ≡ 1 + n = omega arith in
      let e' : row c k (j + 1) n ≡ row c k (suc j) n = ap (λ i. row c k i n) (omega arith) in
      omega (arith, ap (row c k j) e, row_split c k j 1 n, one, e')

  -- the row that starts a place later
  pub row_slides : (j n : ℕ) → j < k → row c k (j + 1) n + c j ≡ row c k j n + c ((j + n) % k)
  row_slides j n h =
      let e : row c k (j + 1) n ≡ row c k (suc j) n = ap (λ i. row c k i n) (omega arith) in
      omega (arith, row_first j n, row_last j n, e, ap c (mod-eq_of_lt h))

  pub row_rises : (j a b : ℕ) → a ≤ b → row c k j a ≤ row c k j b
  row_rises j a b h =
      let e : b ≡ a + (b - a) = omega arith in
      omega (arith, ap (row c k j) e, row_split c k j a (b - a))

  row_turns : (j q r : ℕ) → row c k j (q * k + r) ≡ q * sum_below c k + row c k j r
  row_turns j zero r =
      let e : 0 * k + r ≡ r = omega arith in
      omega (arith, ap (row c k j) e)
  row_turns j (suc q) r =
      let e : suc q * k + r ≡ k + (q * k + r) = omega (arith, suc-mul q k) in
      let t : row c k (j + k) (q * k + r) ≡ row c k j (q * k + r) = row_start c k (j + k) j (q * k + r) (add-mod_right j k) in
      omega (arith, ap (row c k j) e, row_split c k j k (q * k + r), t, row_round c k j, row_turns j q r, suc-mul q (sum_below c k))

  -- whole rounds, and what is left
  pub row_whole : (j n : ℕ) → row c k j n ≡ n / k * sum_below c k + row c k j (n % k)
  row_whole j n = ap (row c k j) (sym (div-add-mod' n k)) ∙ row_turns j (n / k) (n % k)

  pub row_bound : (b : ℕ) → ((x : ℕ) → c x ≤ b) → (j n : ℕ) → row c k j n ≤ n * b
  unfolding row
  row_bound b h j n = sum_bound (λ x. c ((j + x) % k)) b (λ x. h ((j + x) % k)) n

  -- ---- the greatest row

  pub row_greatest : 0 < k → (j n : ℕ) → row c k j n ≤ greatest_row c k n
  unfolding greatest_row
  row_greatest p j n = omega (arith, greatest_above (λ i. row c k i n) k (j % k) (mod-lt j p), row_mod j n)

  greatest_row_within : (n b : ℕ) → ((j : ℕ) → row c k j n ≤ b) → greatest_row c k n ≤ b
  unfolding greatest_row
  greatest_row_within n b h = greatest_within (λ i. row c k i n) k b (λ j l. h j)

  pub greatest_row_none : greatest_row c k 0 ≡ 0
  greatest_row_none = omega (arith, greatest_row_within 0 0 (λ j. omega (arith, row_none c k j)))

  pub greatest_row_rises : 0 < k → (a b : ℕ) → a ≤ b → greatest_row c k a ≤ greatest_row c k b
  greatest_row_rises p a b h = greatest_row_within a (greatest_row c k b) (λ j. omega (arith, row_rises j a b h, row_greatest p j b))

  pub greatest_row_bound : (b : ℕ) → ((x : ℕ) → c x ≤ b) → (n : ℕ) → greatest_row c k n ≤ n * b
  greatest_row_bound b h n = greatest_row_within n (n * b) (λ j. row_bound b h j n)

  pub greatest_row_whole : 0 < k → (n : ℕ) → greatest_row c k n ≡ n / k * sum_below c k + greatest_row c k (n % k)
  unfolding greatest_row
  greatest_row_whole p n =
      greatest_cong (λ j. row c k j n) (λ j. n / k * sum_below c k + row c k j (n % k)) (λ j. row_whole j n) k ∙ greatest_shift (n / k * sum_below c k) (λ j. row c k j (n % k)) k p

  pub is_greatest_row : 0 < k → (n : ℕ) → GreatestRow c k n (greatest_row c k n)
  unfolding greatest_row
  is_greatest_row p n = record { reached = greatest_reached (λ j. row c k j n) k p; most = λ j. row_greatest p j n }

-- ---- a loop over the starts: the greatest row of n places of those that start below j
pub best_start : (ℕ → ℕ) → ℕ → ℕ → ℕ → ℕ
best_start c k n j = greatest_below (λ i. row c k i n) j

module _ (c : ℕ → ℕ) (k n : ℕ) where
  pub best_none : best_start c k n 0 ≡ 0
  unfolding best_start greatest_below
  best_none = refl

  pub best_more : (j : ℕ) → best_start c k n (j + 1) ≡ max (best_start c k n j) (row c k j n)
  unfolding best_start greatest_below
  best_more j = rw add-one

  pub best_all : best_start c k n k ≡ greatest_row c k n
  unfolding best_start greatest_row
  best_all = refl
