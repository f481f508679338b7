-- The five words and the techniques that they name.
use Rattle.std.proofs.Common.{◌≡◌, ◌≢◌, ℕ, Some, None, Option, MatchOption, true, false, List, sym, refl, ap, ◌∙◌, subst, ⊎_elim}
use Rattle.std.specs.Str.{bytes_eq}
use Rattle.std.proofs.lemmas.Slice.Eq.{bytes_eq-Decides}
use Rattle.std.proofs.lemmas.Bool.{or_cases, cases_Bool}
use Rattle.tasks.specs.Spelled.{technique_word}
use Rattle.tasks.specs.declared.technique.Technique.{Technique}
use Rattle.tasks.specs.declared.technique.Technique.TheVariants.{Fr, Sre, Sdr, Dre, Ddr}
use Rattle.text.specs.Forms.{is_technique}
use Rattle.text.specs.Values.{technique_of}

at_word : (t : Technique) → (is_technique (technique_word t) ≡ true) × (t ≡ technique_of (technique_word t))
at_word Fr = (refl, refl)
at_word Sre = (refl, refl)
at_word Sdr = (refl, refl)
at_word Dre = (refl, refl)
at_word Ddr = (refl, refl)

pub named : (bs : List ℕ) (t : Technique) → bs ≡ technique_word t → (is_technique bs ≡ true) × (t ≡ technique_of bs)
named bs t e = subst (λ x. (is_technique x ≡ true) × (t ≡ technique_of x)) (sym e) (at_word t)

some_word : (bs : List ℕ) → is_technique bs ≡ true → (t : Technique) × (bs ≡ technique_word t)
some_word bs e =
    let same : (t : Technique) → bytes_eq bs (technique_word t) ≡ true → (t : Technique) × (bs ≡ technique_word t) = λ t h. (t, (bytes_eq-Decides bs (technique_word t)).0 h) in
    ⊎_elim (same Fr)
    (λ e1. ⊎_elim (same Sre)
    (λ e2. ⊎_elim (same Sdr)
    (λ e3. ⊎_elim (same Dre) (same Ddr)
    (or_cases (bytes_eq bs (technique_word Dre)) (bytes_eq bs (technique_word Ddr)) e3))
    (or_cases (bytes_eq bs (technique_word Sdr)) _ e2))
    (or_cases (bytes_eq bs (technique_word Sre)) _ e1))
    (or_cases (bytes_eq bs (technique_word Fr)) _ e)

pub word_back : (bs : List ℕ) → is_technique bs ≡ true → bs ≡ technique_word (technique_of bs)
word_back bs e = let s = some_word bs e in s.1 ∙ ap technique_word (named bs s.0 s.1).1

pub unnamed : (bs : List ℕ) → ((t : Technique) → bs ≡ technique_word t → ⊥) → is_technique bs ≡ false
unnamed bs n = ⊎_elim (λ (t : is_technique bs ≡ true). absurd (n (technique_of bs) (word_back bs t))) (λ f. f) (cases_Bool (is_technique bs))

-- what a word names, by its form
pub named_is : (bs : List ℕ) (r : Option Technique) → MatchOption r ((t : Technique) → bs ≢ technique_word t) (λ t. bs ≡ technique_word t) → MatchOption r (is_technique bs ≡ false) (λ t. (is_technique bs ≡ true) × (t ≡ technique_of bs))
named_is bs None h = unnamed bs h
named_is bs (Some t) h = named bs t h
