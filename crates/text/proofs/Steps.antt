-- The turns of loops over bytes.
use Rattle.std.proofs.Common.{◌≡◌, ℕ, suc, ◌+◌, ◌-◌, ◌*◌, ◌^◌, ◌<◌, ◌≤◌, Bool, true, false, not, Some, None, Option, MatchOption, ◌&&◌, leb, List, [], ◌∷◌, length, get_or, drop, sym, refl, ap, ◌∙◌, arith, rules}
use Rattle.std.proofs.lemmas.List.{at_drop_more}
use Rattle.std.proofs.lemmas.Bool.{false≢true, and_parts, leb-true, le-leb, ne_eqb}
use Rattle.std.proofs.lemmas.Bool.Decides.{nat_tests}
use Rattle.std.proofs.lemmas.Str.Parse.{IsNumeralModel, numerals_by_fold, digits_value_short}
use Rattle.tasks.specs.Bytes.{every, digit}
use Rattle.std.proofs.lemmas.List.Recursion.{and_at}
use Rattle.text.specs.Cuts.{last_byte}
use Rattle.text.specs.Forms.{is_number, no_leading_zero}
use Rattle.text.specs.Values.{number_after, number_of}

-- ---- numbers

-- the texts of digits, and the numbers that they write, in the words of the library
pub numerals : IsNumeralModel (λ ds. every digit ds ≡ true) (number_after 0)
numerals = numerals_by_fold _ (search rules) number_after (search rules)

module _ (ds : List ℕ) (num : is_number ds ≡ true) where
  sized : ((leb 1 (length ds) && leb (length ds) 7) ≡ true) × ((no_leading_zero ds && every digit ds) ≡ true)
  sized = and_parts (leb 1 (length ds) && leb (length ds) 7) (no_leading_zero ds && every digit ds) num

  pub number_digits : every digit ds ≡ true
  number_digits = (and_parts (no_leading_zero ds) (every digit ds) sized.1).1

  pub number_first : no_leading_zero ds ≡ true
  number_first = (and_parts (no_leading_zero ds) (every digit ds) sized.1).0

  pub number_length : (1 ≤ length ds) × (length ds ≤ 7)
  number_length =
      let p = and_parts (leb 1 (length ds)) (leb (length ds) 7) sized.0 in
      (leb-true 1 (length ds) p.0, leb-true (length ds) 7 p.1)

  pub number_short : number_of ds < 10000000
  number_short = digits_value_short numerals ds 7 number_digits number_length.1

number_grows : (n : ℕ) (ds : List ℕ) → n ≤ number_after n ds
number_grows n [] = omega arith
number_grows n (d ∷ ds) = omega (arith, number_grows (n * 10 + (d - 48)) ds)

pub number_some : (ds : List ℕ) → is_number ds ≡ true → 1 ≤ number_of ds
number_some [] e = absurd (false≢true e)
number_some (d ∷ ds) e =
    let dig : digit d ≡ true = and_at (every digit) digit refl (λ _ _. refl) (d ∷ ds) 0 0 (omega arith) (number_digits (d ∷ ds) e) in
    let z = number_first (d ∷ ds) e in
    let big : 1 ≤ d - 48 = grind (arith, nat_tests) in
    omega (arith, number_grows (0 * 10 + (d - 48)) ds)

-- a number read, by its form
module _ (ds : List ℕ) (some : 1 ≤ length ds) (few : length ds ≤ 7) (lead : get_or ds 0 0 ≡ 48 → ⊥) where
  form_is : is_number ds ≡ every digit ds
  form_is =
      (λ i. (le-leb 1 (length ds) some i && le-leb (length ds) 7 few i) && (no_zero ds lead i && every digit ds))
    where
      no_zero : (xs : List ℕ) → (get_or xs 0 0 ≡ 48 → ⊥) → no_leading_zero xs ≡ true
      no_zero [] h = refl
      no_zero (x ∷ xs) h = ap not (ne_eqb x 48 h)

  pub number_value : (r : Option ℕ) → MatchOption r (every digit ds ≡ true → 2 ^ 32 ≤ number_of ds) (λ n. (every digit ds ≡ true) × (n ≡ number_of ds)) →
      MatchOption r (is_number ds ≡ false) (λ n. (is_number ds ≡ true) × ((n ≡ number_of ds) × (1 ≤ n) × (n < 10000000)))
  number_value (Some n) h =
      let num : is_number ds ≡ true = form_is ∙ h.0 in
      (num, (h.1, omega (arith, h.1, number_some ds num), omega (arith, h.1, number_short ds num)))
  number_value None h = not_from_true_false (every digit ds) refl
    where
      not_from_true_false : (t : Bool) → every digit ds ≡ t → is_number ds ≡ false
      not_from_true_false true e = absurd (omega (arith, h e, number_short ds (form_is ∙ e)))
      not_from_true_false false e = form_is ∙ e

-- the turn of a loop over digits, which has read i of them: the number is no smaller than the value so far
pub number_grown : (n : ℕ) (ds : List ℕ) (i : ℕ) → i < length ds → number_after n (drop i ds) ≡ number_of ds → n * 10 + (get_or ds i 0 - 48) ≤ number_of ds
number_grown n ds i h inv =
    let next : number_after n (drop i ds) ≡ number_after (n * 10 + (get_or ds i 0 - 48)) (drop (i + 1) ds) = at_drop_more (number_after n) ds i 0 h in
    omega (arith, number_grows (n * 10 + (get_or ds i 0 - 48)) (drop (i + 1) ds), next)

-- ---- the last byte

pub last_is : (bs : List ℕ) → last_byte bs ≡ get_or bs (length bs - 1) 0
last_is [] = refl
last_is (b ∷ []) = refl
last_is (b ∷ c ∷ bs) =
    let e : suc (suc (length bs)) - 1 ≡ suc (suc (length bs) - 1) = omega arith in
    last_is (c ∷ bs) ∙ ap (λ i. get_or (b ∷ c ∷ bs) i 0) (sym e)

pub last_none : (bs : List ℕ) → length bs ≡ 0 → last_byte bs ≡ 0
last_none [] e = refl
last_none (b ∷ bs) e = absurd (omega arith)
