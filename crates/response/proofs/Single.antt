-- The figures of lines are one: a line has one figure, and a table's lines have one answer, in one way of filling the places.
use Rattle.std.proofs.Common.{◌≡◌, ℕ, ◌-◌, ◌<◌, ◌≤◌, Bool, List, [], ◌∷◌, length, get_or, take, Ok, Err, Result, sym, refl, ap, ◌∙◌, ⊎_elim, arith}
use Rattle.std.proofs.lemmas.List.{get_or_default, ext_get_or}
use Rattle.std.proofs.lemmas.Bool.{cases_lt, cases_order, both_ways}
use Rattle.std.proofs.lemmas.Bool.Decides.{same_from_decides}
use Rattle.tasks.specs.declared.line.Line.{Line}
use Rattle.tasks.specs.declared.refusal.Refusal.{Refusal}
use Rattle.tasks.specs.declared.refusal.Refusal.TheVariants.{Declined}
use Rattle.response.specs.Figures.{Figure, smallest, none, Figures, Cleared, Taken, FirstDeclined, Answered, worked_out, no_lines, declined}

-- numbers of which neither is below the other
pub neither_below : (a b : ℕ) → (a < b → ⊥) → (b < a → ⊥) → a ≡ b
neither_below a b f g = ⊎_elim (λ e. e) (λ d. absurd (⊎_elim f g d)) (cases_order a b)

-- a line has one figure
pub figure_one : (demand : Line → ℕ → ℕ) (above : List Line) (l : Line) (r r' : ℕ) → Figure demand above l r → Figure demand above l r' → r ≡ r'
figure_one demand above l r r' (smallest a b p f) (smallest a' b' p' f') = neither_below r r' (λ h. f' r a h p) (λ h. f r' a' h p')
figure_one demand above l r r' (smallest a b p f) (none g) = absurd (g r a b p)
figure_one demand above l r r' (none g) (smallest a b p f) = absurd (g r' a b p)
figure_one demand above l r r' (none g) (none g') = refl

-- the first of some lines
first_line : (ls : List Line) → 1 ≤ length ls → Line
first_line [] h = absurd (omega arith)
first_line (l ∷ ls) h = l

-- figures fill the places in one way
places_one : (demand : Line → ℕ → ℕ) (ls : List Line) (p p' : List ℕ) → 1 ≤ length ls → Figures demand ls (length ls) p → Figures demand ls (length ls) p' → p ≡ p'
places_one demand ls p p' some f f' =
    let d = first_line ls some in
    ext_get_or 0 p p' (f.size ∙ sym f'.size) (λ i h. ⊎_elim
    (λ (k : i < length ls). figure_one demand (take i ls) (get_or ls i d) (get_or p i 0) (get_or p' i 0) (f.each i k d) (f'.each i k d))
    (λ (k : length ls ≤ i). f.past i k ∙ sym (f'.past i k))
    (cases_lt i (length ls)))

-- and so does 0
cleared_one : (p p' : List ℕ) → Cleared p → Cleared p' → p ≡ p'
cleared_one p p' c c' = ext_get_or 0 p p' (c.0 ∙ sym c'.0) (λ i h. c.1 i ∙ sym (c'.1 i))

-- a declined line is not among lines that are taken
taken_clash : (takes : Line → Bool) (ls : List Line) (n m : ℕ) → FirstDeclined takes ls n → n ≤ m → Taken takes ls m → ⊥
taken_clash takes ls n m f h taken =
    let is = f.within in
    let d = first_line ls (omega arith) in
    let l = get_or ls (n - 1) d in
    both_ways (takes l) (f.here l (is, get_or_default ls (n - 1) d l (omega arith))) (taken (n - 1) d (omega arith))

-- the figures of a table's lines have one answer, and fill the places in one way
pub answered_one : (takes : Line → Bool) (demand : Line → ℕ → ℕ) (ls : List Line) (p p' : List ℕ) (r r' : Result Bool Refusal) → Answered takes demand ls p r → Answered takes demand ls p' r' → (r ≡ r') × (p ≡ p')
answered_one takes demand ls p p' r r' (worked_out {b} some t f d) (worked_out {b = b'} some' t' f' d') =
    let same = places_one demand ls p p' some f f' in
    (ap Ok (same_from_decides b b' d (rw same d')), same)
answered_one takes demand ls p p' r r' (worked_out some t f d) (no_lines z c) = absurd (omega arith)
answered_one takes demand ls p p' r r' (worked_out some t f d) (declined {n} g c) = absurd (taken_clash takes ls n (length ls) g g.within.1 t)
answered_one takes demand ls p p' r r' (no_lines z c) (worked_out some t f d) = absurd (omega arith)
answered_one takes demand ls p p' r r' (no_lines z c) (no_lines z' c') = (refl, cleared_one p p' c c')
answered_one takes demand ls p p' r r' (no_lines z c) (declined g c') = absurd (omega (arith, g.within))
answered_one takes demand ls p p' r r' (declined {n} g c) (worked_out some t f d) = absurd (taken_clash takes ls n (length ls) g g.within.1 t)
answered_one takes demand ls p p' r r' (declined g c) (no_lines z c') = absurd (omega (arith, g.within))
answered_one takes demand ls p p' r r' (declined {n} g c) (declined {n = n'} g' c') =
    let same = neither_below n n' (λ h. taken_clash takes ls n (n' - 1) g (omega arith) g'.before) (λ h. taken_clash takes ls n' (n - 1) g' (omega arith) g.before) in
    (ap (λ x. Err (Declined x)) same, cleared_one p p' c c')
