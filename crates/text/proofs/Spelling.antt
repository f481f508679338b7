-- Fields that are written out, and read back.
use Rattle.std.proofs.Common.{◌≡◌, ℕ, suc, ◌+◌, ◌^◌, ◌<◌, ◌≤◌, Bool, true, false, cond, ◌&&◌, ◌||◌, eqb, leb, ◌⊎◌, List, [], ◌∷◌, length, get_or, codes, decimal, sym, refl, ap, ◌∙◌, subst, inl, inr, arith}
use Rattle.std.proofs.lemmas.Fmt.{decimal-digits_value, decimal_nonempty, length-decimal-le, first_decimal, digits_decimal, digits_value-decimal}
use Rattle.std.proofs.lemmas.Bool.{and_parts, and_from, leb-true, le-leb, eqb-true, eq-eqb, ne_eqb, not-true, not_from_false, eqb-false, false≢true, both_ways}
use Rattle.words.specs.Bits.{bit, ones}
use Rattle.words.specs.Patterns.{pattern_word}
use Rattle.words.specs.declared.patterns.Pattern.TheVariants as pattern
use Rattle.tasks.specs.Bytes.{every, digit, name_byte, is_name}
use Rattle.tasks.specs.Spelled.{technique_word}
use Rattle.tasks.specs.declared.technique.Technique.{Technique}
use Rattle.tasks.specs.declared.technique.Technique.TheVariants.{Fr, Sre, Sdr, Dre, Ddr}
use Rattle.text.specs.Cuts.{count}
use Rattle.text.specs.Forms.{binary, no_leading_zero, is_number, is_bits, is_byte, is_r, is_e, is_pattern}
use Rattle.text.specs.Values.{number_of, bits_of, fits, field_word, SaysPattern}
use Rattle.text.specs.declared.value.PatternValue.TheVariants as pattern_value
use Rattle.text.specs.Law.{Bits}
use Rattle.text.proofs.Steps.{numerals, number_digits, number_first, number_length, number_short}
use Rattle.text.proofs.Ones.{ones_bits, bits_at, bits_back, bits_below}

-- ---- numbers

first_not : (ds : List ℕ) → no_leading_zero ds ≡ true → 1 ≤ length ds → get_or ds 0 0 ≡ 48 → ⊥
first_not [] z h e = omega arith
first_not (d ∷ ds) z h e = eqb-false d 48 (not-true (eqb d 48) z) e

first_other : (ds : List ℕ) → 48 < get_or ds 0 0 → no_leading_zero ds ≡ true
first_other [] h = refl
first_other (d ∷ ds) h = not_from_false (eqb d 48) (ne_eqb d 48 (λ e. omega arith))

pub number_back : (ds : List ℕ) → is_number ds ≡ true → decimal (number_of ds) ≡ ds
number_back ds e =
    decimal-digits_value numerals ds (number_digits ds e) (number_length ds e).0 (λ z. absurd (first_not ds (number_first ds e) (number_length ds e).0 z)) (omega (arith, number_short ds e))

module _ (n : ℕ) (some : 1 ≤ n) (small : n ≤ 1000000) where
  digits : every digit (decimal n) ≡ true
  digits = digits_decimal numerals n (omega arith)

  number_form : is_number (decimal n) ≡ true
  number_form =
      and_from (leb 1 (length (decimal n)) && leb (length (decimal n)) 7) (no_leading_zero (decimal n) && every digit (decimal n))
      (and_from (leb 1 (length (decimal n))) (leb (length (decimal n)) 7) (le-leb 1 (length (decimal n)) (decimal_nonempty n (omega arith))) (le-leb (length (decimal n)) 7 (length-decimal-le 7 n (omega arith) (omega arith) (omega arith))))
      (and_from (no_leading_zero (decimal n)) (every digit (decimal n)) (first_other (decimal n) (first_decimal n some (omega arith))) digits)

-- ---- patterns

byte_is : (c : ℕ) (bs : List ℕ) → is_byte c bs ≡ true → bs ≡ c ∷ []
byte_is c [] e = absurd (false≢true e)
byte_is c (b ∷ []) e = ap (λ x. x ∷ []) (eqb-true b c e)
byte_is c (b ∷ d ∷ bs) e = absurd (false≢true e)

bits_no_letter : (bs : List ℕ) → every binary bs ≡ true → (is_r bs ≡ false) × (is_e bs ≡ false)
bits_no_letter [] e = (refl, refl)
bits_no_letter (b ∷ []) e =
    let u = leb-true b 49 (and_parts (leb 48 b) (leb b 49) (and_parts (binary b) true e).0).1 in
    (ne_eqb b 82 (λ z. omega arith), ne_eqb b 69 (λ z. omega arith))
bits_no_letter (b ∷ c ∷ bs) e = (refl, refl)

-- the ways in which bytes stand for a word
abbrev pub Ways : ℕ → ℕ → ℕ → List ℕ → Type 0
Ways m k w bs =
    ((bs ≡ codes "R") × (w ≡ pattern_word pattern.R m k))
    ⊎ (((bs ≡ codes "E") × (w ≡ pattern_word pattern.E m k))
    ⊎ Bits k w bs)

-- the word of a field, by its letters
pub word_at : (a b : Bool) (m k : ℕ) (bs : List ℕ) → is_r bs ≡ a → is_e bs ≡ b → field_word m k bs ≡ cond a (pattern_word pattern.R m k) (cond b (pattern_word pattern.E m k) (bits_of bs))
word_at a b m k bs r e = (λ i. cond (r i) (pattern_word pattern.R m k) (cond (e i) (pattern_word pattern.E m k) (bits_of bs)))

stands_by : (a b : Bool) (m k : ℕ) (bs : List ℕ) → is_r bs ≡ a → is_e bs ≡ b → is_pattern bs ≡ true → fits m k bs ≡ true → Ways m k (field_word m k bs) bs
stands_by true b m k bs r e h f = inl (byte_is 82 bs r, word_at true b m k bs r e)
stands_by false true m k bs r e h f = inr (inl (byte_is 69 bs e, word_at false true m k bs r e))
stands_by false false m k bs r e h f =
    let p : is_bits bs ≡ true = sym (λ i. r i || (e i || is_bits bs)) ∙ h in
    let q : (eqb (length bs) k && eqb (count 49 bs) m) ≡ true = sym (λ i. r i || (e i || (eqb (length bs) k && eqb (count 49 bs) m))) ∙ f in
    let size : length bs ≡ k = eqb-true (length bs) k (and_parts (eqb (length bs) k) (eqb (count 49 bs) m) q).0 in
    let ev = (and_parts (leb 1 (length bs) && leb (length bs) 64) (every binary bs) p).1 in
    inr (inr (size, λ j l. bits_at bs ev j (omega arith) ∙ ap (λ w. 48 + bit w j) (sym (word_at false false m k bs r e))))

-- a pattern field stands for its word
pub stands : (m k : ℕ) (bs : List ℕ) → is_pattern bs ≡ true → fits m k bs ≡ true → Ways m k (field_word m k bs) bs
stands m k bs h f = stands_by (is_r bs) (is_e bs) m k bs refl refl h f

-- ---- marks

lacks_step : (t : Bool) (n : ℕ) → (t ≡ true → ⊥) → n ≡ 0 → cond t (suc n) n ≡ 0
lacks_step true n h e = absurd (h refl)
lacks_step false n h e = e

every_lacks : (p : ℕ → Bool) (c : ℕ) (bs : List ℕ) → p c ≡ false → every p bs ≡ true → count c bs ≡ 0
every_lacks p c [] ne e = refl
every_lacks p c (b ∷ bs) ne e =
    let q = and_parts (p b) (every p bs) e in
    lacks_step (eqb b c) (count c bs) (λ t. both_ways (p b) (ap p (eqb-true b c t) ∙ ne) q.0) (every_lacks p c bs ne q.1)

-- neither a comma nor a line feed
abbrev pub Lacks : List ℕ → Type 0
Lacks bs = (count 44 bs ≡ 0) × (count 10 bs ≡ 0)

pub name_lacks : (bs : List ℕ) → is_name bs ≡ true → Lacks bs
name_lacks bs e =
    let q = (and_parts (leb (length bs) 8) (every name_byte bs) (and_parts (leb 1 (length bs)) (leb (length bs) 8 && every name_byte bs) e).1).1 in
    (every_lacks name_byte 44 bs refl q, every_lacks name_byte 10 bs refl q)

pub technique_lacks : (t : Technique) → Lacks (technique_word t)
technique_lacks Fr = (refl, refl)
technique_lacks Sre = (refl, refl)
technique_lacks Sdr = (refl, refl)
technique_lacks Dre = (refl, refl)
technique_lacks Ddr = (refl, refl)

-- a number that is written out
pub record Number (n : ℕ) : Type 0 where
  pub form : is_number (decimal n) ≡ true
  pub value : number_of (decimal n) ≡ n
  pub lacks : Lacks (decimal n)

pub numbered : (n : ℕ) → 1 ≤ n → n ≤ 1000000 → Number n
numbered n some small =
    let q = digits n some small in
    record {
      form = number_form n some small;
      value = digits_value-decimal numerals n (omega arith);
      lacks = (every_lacks digit 44 (decimal n) refl q, every_lacks digit 10 (decimal n) refl q);
    }

-- what the rules ask of a pattern
pub record Fine (m k w : ℕ) (bs : List ℕ) : Type 0 where
  pub form : is_pattern bs ≡ true
  pub fitting : fits m k bs ≡ true
  pub word : w ≡ field_word m k bs
  pub lacks : Lacks bs

pub fine : (m k w : ℕ) (bs : List ℕ) → 1 ≤ k → k ≤ 64 → w < 2 ^ k → ones k w ≡ m → Ways m k w bs → Fine m k w bs
fine m k w bs some few narrow reliable (inl r) =
    subst (λ x. Fine m k w x) (sym r.0) (record { form = refl; fitting = refl; word = r.1; lacks = (refl, refl) })
fine m k w bs some few narrow reliable (inr (inl r)) =
    subst (λ x. Fine m k w x) (sym r.0) (record { form = refl; fitting = refl; word = r.1; lacks = (refl, refl) })
fine m k w bs some few narrow reliable (inr (inr r)) =
    let size : length bs ≡ k = r.0 in
    let back = bits_back bs w (subst (λ (n : ℕ). w < 2 ^ n) (sym size) narrow) (λ j l. r.1 j (omega arith)) in
    let n = bits_no_letter bs back.0 in
    let marks : count 49 bs ≡ m = sym (ones_bits bs back.0) ∙ (λ i. ones (size i) (back.1 i)) ∙ reliable in
    record {
      form =
          (λ i. n.0 i || (n.1 i || is_bits bs))
          ∙ and_from (leb 1 (length bs) && leb (length bs) 64) (every binary bs) (and_from (leb 1 (length bs)) (leb (length bs) 64) (le-leb 1 (length bs) (omega arith)) (le-leb (length bs) 64 (omega arith))) back.0;
      fitting =
          (λ i. n.0 i || (n.1 i || (eqb (length bs) k && eqb (count 49 bs) m)))
          ∙ and_from (eqb (length bs) k) (eqb (count 49 bs) m) (eq-eqb (length bs) k size) (eq-eqb (count 49 bs) m marks);
      word = sym back.1 ∙ sym (word_at false false m k bs n.0 n.1);
      lacks = (every_lacks binary 44 bs refl back.0, every_lacks binary 10 bs refl back.0);
    }

-- ---- a pattern's bits, as they are read

module _ (m k n w : ℕ) (bs : List ℕ) (said : SaysPattern bs (pattern_value.Bits n w)) where
  ones_said : n ≡ k → ones k w ≡ count 49 bs
  ones_said size =
      let at : k ≡ length bs = omega (arith, said.3) in
      (λ i. ones (at i) (said.5 i)) ∙ ones_bits bs said.2

  fits_is : fits m k bs ≡ (eqb (length bs) k && eqb (count 49 bs) m)
  fits_is = (λ i. said.0 i || (said.1 i || (eqb (length bs) k && eqb (count 49 bs) m)))

  pub bits_fit : n ≡ k → ones k w ≡ m → (fits m k bs ≡ true) × (w ≡ field_word m k bs) × (ones k w ≡ m) × (w < 2 ^ k)
  bits_fit size reliable =
      let at : length bs ≡ k = omega (arith, said.3) in (
        fits_is ∙ and_from (eqb (length bs) k) (eqb (count 49 bs) m) (eq-eqb (length bs) k at) (eq-eqb (count 49 bs) m (sym (ones_said size) ∙ reliable)),
        said.5 ∙ sym (word_at false false m k bs said.0 said.1),
        reliable,
        subst (λ (x : ℕ). w < 2 ^ x) at (omega (arith, said.5, bits_below bs said.2)),
      )

  pub bits_unfit : (n ≡ k → ones k w ≡ m → ⊥) → fits m k bs ≡ false
  bits_unfit unlike =
      fits_is
      ∙ and_false (eqb (length bs) k) (eqb (count 49 bs) m)
      (λ s t. unlike (omega (arith, said.3, eqb-true (length bs) k s)) (ones_said (omega (arith, said.3, eqb-true (length bs) k s)) ∙ eqb-true (count 49 bs) m t))
    where
      and_false : (a b : Bool) → (a ≡ true → b ≡ true → ⊥) → (a && b) ≡ false
      and_false true true h = absurd (h refl refl)
      and_false true false h = refl
      and_false false b h = refl
