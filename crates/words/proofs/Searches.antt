-- Lemmas on the first number that passes a test.
use Rattle.std.proofs.Common.{◌≡◌, ℕ, zero, suc, ◌+◌, ◌<◌, ◌≤◌, Bool, true, false, cond, Option, Some, None, MatchOption, unwrap_or, sym, refl, ap, ◌∙◌, ⊎_elim, arith}
use Rattle.std.proofs.lemmas.Bool.{cases_lt, cases_Bool, both_ways}
use Rattle.words.specs.Turns.{first_from}

module _ (p : ℕ → Bool) where
  -- where one passes, the first that does passes
  pub first_passes : (i j n : ℕ) → j ≤ i → i < j + n → p i ≡ true → p (first_from p j n) ≡ true
  unfolding first_from
  first_passes i j zero a b h = absurd (omega arith)
  first_passes i j (suc n) a b h =
      ⊎_elim
      (λ (t : p j ≡ true). ap (λ x. p (cond x j (first_from p (suc j) n))) t ∙ t)
      (λ (f : p j ≡ false). ap (λ x. p (cond x j (first_from p (suc j) n))) f ∙ first_passes i (suc j) n (after f) (omega arith) h)
      (cases_Bool (p j))
    where
      after : p j ≡ false → suc j ≤ i
      after f = ⊎_elim (λ (l : j < i). l) (λ (l : i ≤ j). let e : i ≡ j = omega arith in absurd (both_ways (p j) f (ap p (sym e) ∙ h))) (cases_lt j i)

  -- none before it passes
  pub first_least : (i j n : ℕ) → j ≤ i → i < first_from p j n → p i ≡ false
  unfolding first_from
  first_least i j zero a b = absurd (omega arith)
  first_least i j (suc n) a b =
      ⊎_elim
      (λ (t : p j ≡ true). absurd (omega (arith, ap (λ x. cond x j (first_from p (suc j) n)) t)))
      (λ (f : p j ≡ false).
      ⊎_elim
      (λ (l : j < i). first_least i (suc j) n l (omega (arith, ap (λ x. cond x j (first_from p (suc j) n)) f)))
      (λ (l : i ≤ j). let e : i ≡ j = omega arith in ap p e ∙ f)
      (cases_lt j i))
      (cases_Bool (p j))

  -- where none passes, it is 0
  pub first_missing : (j n : ℕ) → ((i : ℕ) → j ≤ i → i < j + n → p i ≡ false) → first_from p j n ≡ 0
  unfolding first_from
  first_missing j zero h = refl
  first_missing j (suc n) h =
      ap (λ x. cond x j (first_from p (suc j) n)) (h j (omega arith) (omega arith)) ∙ first_missing (suc j) n (λ i a b. h i (omega arith) (omega arith))

  -- it lies among the numbers looked at
  pub first_within : (j n : ℕ) → 0 < n → first_from p j n < j + n
  unfolding first_from
  first_within j zero h = absurd (omega arith)
  first_within j (suc zero) h =
      ⊎_elim
      (λ (t : p j ≡ true). omega (arith, ap (λ x. cond x j 0) t))
      (λ (f : p j ≡ false). omega (arith, ap (λ x. cond x j 0) f))
      (cases_Bool (p j))
  first_within j (suc (suc n)) h =
      ⊎_elim
      (λ (t : p j ≡ true). omega (arith, ap (λ x. cond x j (first_from p (suc j) (suc n))) t))
      (λ (f : p j ≡ false). omega (arith, ap (λ x. cond x j (first_from p (suc j) (suc n))) f, first_within (suc j) (suc n) (omega arith)))
      (cases_Bool (p j))

  -- the first that passes is the only number that passes with none before it
  first_is : (i n : ℕ) → i < n → p i ≡ true → ((k : ℕ) → k < i → p k ≡ false) → first_from p 0 n ≡ i
  first_is i n l t none =
      let f = first_from p 0 n in
      let not_before : f < i → ⊥ = λ b. both_ways (p f) (none f b) (first_passes i 0 n (omega arith) (omega arith) t) in
      let not_after : i < f → ⊥ = λ a. both_ways (p i) (first_least i 0 n (omega arith) a) t in
      ⊎_elim (λ (b : f < i). absurd (not_before b)) (λ (g : i ≤ f). ⊎_elim (λ (a : i < f). absurd (not_after a)) (λ (h : f ≤ i). omega arith) (cases_lt i f)) (cases_lt f i)

  -- what a search of the numbers below n answers
  pub found_first : (n : ℕ) (r : Option ℕ) → MatchOption r ((k : ℕ) → 0 ≤ k → k < n → p k ≡ false) (λ i. (0 ≤ i) × (i < n) × (p i ≡ true) × ((k : ℕ) → 0 ≤ k → k < i → p k ≡ false)) → unwrap_or r 0 ≡ first_from p 0 n
  found_first n None h = sym (first_missing 0 n (λ i a b. h i a (omega arith)))
  found_first n (Some i) h = sym (first_is i n h.1 h.2 (λ k b. h.3 k (omega arith) b))
