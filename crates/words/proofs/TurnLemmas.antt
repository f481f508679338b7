-- The turn that rearranges a word.
use Rattle.std.proofs.Common.{◌≡◌, ℕ, zero, suc, ◌+◌, ◌-◌, ◌%◌, ◌^◌, ◌<◌, ◌≤◌, true, false, eqb, sym, ap, ◌∙◌, ⊎_elim, mod-lt, mod-eq_of_lt, arith}
use native.Mathlib.Nat.{mod-add-mod, add-mod-mod, mod_self}
use Rattle.std.proofs.lemmas.Bool.{cases_lt, cases_Bool, both_ways, and_parts, and_cases, and_left, and_right, and_from, eqb-true, eqb-false, eq-eqb, ne_eqb}
use Rattle.words.specs.Sums.{row}
use Rattle.words.specs.Bits.{bit, ones, word_of}
use Rattle.words.specs.Turns.{before, falls_at, turn_of, Rearranges, turned_bit, Turned}
use Rattle.words.proofs.Sums.{row_round, sum_above, sum_some, zeros_and_ones, sum_of_ones, sum_cong_below, sum_turned}
use Rattle.words.proofs.Words.{word_is, word_made}
use Rattle.words.proofs.Searches.{first_passes, first_least, first_missing, first_within}

-- the place before the next one is the place itself
before_next : (k y : ℕ) → y < k → before k ((y + 1) % k) ≡ y
before_next k y h =
    ⊎_elim
    (λ (l : y + 1 < k). let e : y + 1 ≡ suc y = omega arith in ap (before k) (mod-eq_of_lt l ∙ e))
    (λ (l : k ≤ y + 1). let e : y + 1 ≡ k = omega arith in ap (λ i. before k (i % k)) e ∙ ap (before k) (mod_self k) ∙ omega arith)
    (cases_lt (y + 1) k)

module _ (w k : ℕ) where
  -- where the word falls nowhere, a one is followed by ones
  ones_on : 0 < k → ((j : ℕ) → j < k → falls_at w k j ≡ false) → (j : ℕ) → j < k → bit w j ≡ 1 → (x : ℕ) → bit w ((j + x) % k) ≡ 1
  ones_on p none j h one zero = let e : j + 0 ≡ j = omega arith in ap (λ i. bit w (i % k)) e ∙ ap (bit w) (mod-eq_of_lt h) ∙ one
  ones_on p none j h one (suc x) =
      let y = (j + x) % k in
      let i = (j + suc x) % k in
      let e : j + suc x ≡ j + x + 1 = omega arith in
      let next : i ≡ (y + 1) % k = ap (λ z. z % k) e ∙ sym (mod-add-mod (j + x) k 1) in
      let was : bit w (before k i) ≡ 1 = ap (λ z. bit w (before k z)) next ∙ ap (bit w) (before_next k y (mod-lt (j + x) p)) ∙ ones_on p none j h one x in
      ⊎_elim
      (λ (f : eqb (bit w i) 0 ≡ false). ⊎_elim (λ (l : 0 < bit w i). omega arith) (λ (l : bit w i ≤ 0). absurd (eqb-false (bit w i) 0 f (omega arith))) (cases_lt 0 (bit w i)))
      (λ (f : eqb (bit w (before k i)) 1 ≡ false). absurd (eqb-false (bit w (before k i)) 1 f was))
      (and_cases (eqb (bit w i) 0) (eqb (bit w (before k i)) 1) (none i (mod-lt (j + suc x) p)))

  -- a word with a one and a zero falls somewhere
  falls_somewhere : 0 < ones k w → ones k w < k → ((j : ℕ) → j < k → falls_at w k j ≡ false) → ⊥
  unfolding row
  falls_somewhere some less none =
      let r = sum_some (bit w) k some in
      let one : bit w r.0 ≡ 1 = omega (arith, r.2) in
      let full : 0 < k = omega arith in
      omega (arith, row_round (bit w) k r.0, sum_of_ones (λ x. bit w ((r.0 + x) % k)) (ones_on full none r.0 r.1 one) k)

  -- a bit of a word whose k bits are all 1, or all 0
  no_zero : ones k w ≡ k → (i : ℕ) → i < k → bit w i ≡ 0 → ⊥
  no_zero e i h z = omega (arith, sum_above (λ x. 1 - bit w x) k i h, zeros_and_ones (bit w) (λ x. omega arith) k)

  no_one : ones k w ≡ 0 → (i : ℕ) → i < k → bit w i ≡ 1 → ⊥
  no_one e i h z = omega (arith, sum_above (bit w) k i h)

  before_within : (i : ℕ) → i < k → before k i < k
  before_within zero h = omega arith
  before_within (suc i) h = omega arith

  passes : 0 < ones k w → ones k w < k → falls_at w k (turn_of w k) ≡ true
  unfolding turn_of
  passes some less =
      ⊎_elim
      (λ (t : falls_at w k (turn_of w k) ≡ true). t)
      (λ (f : falls_at w k (turn_of w k) ≡ false).
      absurd (falls_somewhere some less (λ j b.
      ⊎_elim
      (λ (t : falls_at w k j ≡ true). absurd (both_ways (falls_at w k (turn_of w k)) f (first_passes (falls_at w k) j 0 k (omega arith) (omega arith) t)))
      (λ (g : falls_at w k j ≡ false). g)
      (cases_Bool (falls_at w k j)))))
      (cases_Bool (falls_at w k (turn_of w k)))

pub turn_rearranges : (w k : ℕ) → Rearranges w k (turn_of w k)
unfolding turn_of
turn_rearranges w k = record {
  whole = λ e. first_missing (falls_at w k) 0 k (λ i a b. and_left (eqb (bit w i) 0) (eqb (bit w (before k i)) 1) (ne_eqb (bit w i) 0 (no_zero w k e i (omega arith))));
  empty = λ e. first_missing (falls_at w k) 0 k (λ i a b. and_right (eqb (bit w i) 0) (eqb (bit w (before k i)) 1) (ne_eqb (bit w (before k i)) 1 (no_one w k e (before k i) (before_within w k i (omega arith)))));
  within = λ p. omega (arith, first_within (falls_at w k) 0 k p);
  zero_here = λ some less. eqb-true (bit w (turn_of w k)) 0 (parts some less).0;
  one_before = λ some less. eqb-true (bit w (before k (turn_of w k))) 1 (parts some less).1;
  fewest = λ i h a b. both_ways (falls_at w k i) (first_least (falls_at w k) i 0 k (omega arith) h) (and_from (eqb (bit w i) 0) (eqb (bit w (before k i)) 1) (eq-eqb (bit w i) 0 a) (eq-eqb (bit w (before k i)) 1 b));
}
  where
    parts : 0 < ones k w → ones k w < k → (eqb (bit w (turn_of w k)) 0 ≡ true) × (eqb (bit w (before k (turn_of w k))) 1 ≡ true)
    parts some less = and_parts (eqb (bit w (turn_of w k)) 0) (eqb (bit w (before k (turn_of w k))) 1) (passes w k some less)

-- ---- a word turned by s places

module _ (w k s : ℕ) where
  -- whole rounds of a turn do not count
  turned_bit_round : (j : ℕ) → turned_bit w k (s % k) j ≡ turned_bit w k s j
  turned_bit_round j = ap (bit w) (add-mod-mod j s k)

  pub turned_from : (by v : ℕ) → by ≡ s % k → ((j : ℕ) → j < k → bit v j ≡ turned_bit w k by j) → v < 2 ^ k → Turned w k s v
  turned_from by v e bits narrow =
      let all : (j : ℕ) → j < k → bit v j ≡ turned_bit w k s j = λ j h. bits j h ∙ ap (λ t. turned_bit w k t j) e ∙ turned_bit_round j in
      record { bits = all; reliable = sum_cong_below (bit v) (turned_bit w k s) k all ∙ sum_turned (bit w) k s; narrow = narrow }

  pub turned_round : (v : ℕ) → Turned w k s v → Turned w k (s % k) v
  turned_round v t = record { bits = λ j h. t.bits j h ∙ sym (turned_bit_round j); reliable = t.reliable; narrow = t.narrow }

  -- there is one such word
  pub turned_same : (u v : ℕ) → Turned w k s u → Turned w k s v → u ≡ v
  turned_same u v t t' = word_is (turned_bit w k s) k u t.narrow t.bits ∙ sym (word_is (turned_bit w k s) k v t'.narrow t'.bits)

-- the word that the turned bits make is the word turned
pub turned_word : (w k s : ℕ) → Turned w k s (word_of (turned_bit w k s) k)
turned_word w k s =
    let made = word_made (turned_bit w k s) (λ j. omega arith) k in
    let v = word_of (turned_bit w k s) k in
    record { bits = made.1; reliable = sum_cong_below (bit v) (turned_bit w k s) k made.1 ∙ sum_turned (bit w) k s; narrow = made.0 }
