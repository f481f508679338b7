-- Lines that say the same have the same demands, and so the same figures.
use Rattle.std.proofs.Common.{◌≡◌, ℕ, ◌+◌, ◌-◌, ◌*◌, ◌<◌, ◌≤◌, Bool, leb, List, [], ◌∷◌, map, length, get_or, take, Decides, Result, sym, refl, ap, ◌∙◌, subst, arith}
use lib.ListN.{length-map}
use Rattle.std.proofs.lemmas.List.{take-map, get_or-map, get_or_default}
use Rattle.std.proofs.lemmas.List.Sums.{sum_by-cons}
use Rattle.words.specs.Patterns.{up}
use Rattle.words.specs.Sums.{greatest_row}
use Rattle.tasks.specs.declared.line.Line.{Line}
use Rattle.tasks.specs.declared.refusal.Refusal.{Refusal}
use Rattle.tasks.specs.declared.technique.Technique.{Technique}
use Rattle.tasks.specs.declared.technique.Technique.TheVariants.{Fr, Sre, Sdr, Dre, Ddr}
use Rattle.tasks.specs.Rows.{Row, row_of}
use Rattle.tasks.specs.Tables.{IsLine}
use Rattle.policies.specs.Patterns.{cost_at}
use Rattle.policies.specs.Techniques.{technique_takes, technique_demand}
use Rattle.response.specs.Figures.{load_above, Passes, Figure, smallest, none, Figures, Admitted, Taken, FirstDeclined, Answered, worked_out, no_lines, declined}
use Rattle.response.proofs.Single.{answered_one}
use Rattle.report.specs.Answer.{takes, demand}

-- ---- one line

module _ (a b : Line) (e : row_of a ≡ row_of b) where
  technique_takes_alike : (t : Technique) → technique_takes t a ≡ technique_takes t b
  technique_takes_alike Fr = refl
  technique_takes_alike Sre = refl
  technique_takes_alike Sdr = ap (λ (r : Row). leb (r.detect + r.correct) r.period) e
  technique_takes_alike Dre = refl
  technique_takes_alike Ddr = ap (λ (r : Row). leb (r.detect + r.correct) r.period) e

  technique_demand_alike : (t : Technique) (n : ℕ) → technique_demand t a n ≡ technique_demand t b n
  technique_demand_alike Fr n = ap (λ (r : Row). n * r.correct) e
  technique_demand_alike Sre n = ap (λ (r : Row). greatest_row (cost_at r.bare r.correct r.word) r.k n) e
  technique_demand_alike Sdr n = ap (λ (r : Row). greatest_row (cost_at r.bare (r.detect + r.correct) r.word) r.k n) e
  technique_demand_alike Dre n = ap (λ (r : Row). greatest_row (cost_at r.detect r.correct r.word) r.k n) e
  technique_demand_alike Ddr n = ap (λ (r : Row). greatest_row (cost_at r.detect (r.detect + r.correct) r.word) r.k n) e

  takes_alike : takes a ≡ takes b
  takes_alike = technique_takes_alike a.technique ∙ ap (λ (r : Row). technique_takes r.technique b) e

  demand_alike : (n : ℕ) → demand a n ≡ demand b n
  demand_alike n = technique_demand_alike a.technique n ∙ ap (λ (r : Row). technique_demand r.technique b n) e

-- ---- lists of lines

first_row : Row → List Row → Row
first_row d [] = d
first_row d (r ∷ rs) = r

later_rows : List Row → List Row
later_rows [] = []
later_rows (r ∷ rs) = rs

load_alike : (ls bs : List Line) → map row_of ls ≡ map row_of bs → (t : ℕ) → load_above demand ls t ≡ load_above demand bs t
unfolding first_row later_rows
load_alike [] [] e t = refl
load_alike [] (b ∷ bs) e t = absurd (omega (arith, ap length e))
load_alike (a ∷ ls) [] e t = absurd (omega (arith, ap length e))
load_alike (a ∷ ls) (b ∷ bs) e t =
    let f : Line → ℕ = λ h. demand h (up t h.period) in
    let here : row_of a ≡ row_of b = ap (first_row (row_of a)) e in
    let first : f a ≡ f b = demand_alike a b here (up t a.period) ∙ ap (λ (r : Row). demand b (up t r.period)) here in
    omega (arith, sum_by-cons f a ls, sum_by-cons f b bs, first, load_alike ls bs (ap later_rows e) t)

module _ (ls bs : List Line) (e : map row_of ls ≡ map row_of bs) where
  pub length_alike : length ls ≡ length bs
  length_alike = sym (length-map ls row_of) ∙ ap length e ∙ length-map bs row_of

  take_alike : (i : ℕ) → map row_of (take i ls) ≡ map row_of (take i bs)
  take_alike i = sym (take-map row_of i ls) ∙ ap (take i) e ∙ take-map row_of i bs

  at_alike : (i : ℕ) (d : Line) → i < length ls → row_of (get_or ls i d) ≡ row_of (get_or bs i d)
  at_alike i d h =
      sym (get_or-map row_of ls i d (row_of d) h)
      ∙ ap (λ rs. get_or rs i (row_of d)) e
      ∙ get_or-map row_of bs i d (row_of d) (omega (arith, length_alike))

-- ---- figures

module _ (above above' : List Line) (l l' : Line) (e : map row_of above ≡ map row_of above') (h : row_of l ≡ row_of l') where
  passes_alike : (t : ℕ) → Passes demand above l t → Passes demand above' l' t
  passes_alike t p = omega (arith, p, load_alike above above' e t, demand_alike l l' h 1)

module _ (above above' : List Line) (l l' : Line) (e : map row_of above ≡ map row_of above') (h : row_of l ≡ row_of l') where
  figure_alike : {f : ℕ} → Figure demand above l f → Figure demand above' l' f
  figure_alike (smallest {t} a b c d) = smallest a (omega (arith, b, ap (λ (r : Row). r.period) h)) (passes_alike above above' l l' e h t c) (λ s x y p. d s x y (passes_alike above' above l' l (sym e) (sym h) s p))
  figure_alike (none n) = none (λ s x y p. n s x (omega (arith, y, ap (λ (r : Row). r.period) h)) (passes_alike above' above l' l (sym e) (sym h) s p))

-- ---- what figures answer

module _ (ls bs : List Line) (e : map row_of ls ≡ map row_of bs) where
  taken_alike : (n : ℕ) → n ≤ length ls → Taken takes ls n → Taken takes bs n
  taken_alike n few taken i d h = sym (takes_alike (get_or ls i d) (get_or bs i d) (at_alike ls bs e i d (omega arith))) ∙ taken i d h

  declined_alike : (n : ℕ) → FirstDeclined takes ls n → FirstDeclined takes bs n
  declined_alike n f =
      let within : IsLine bs n = (f.within.0, omega (arith, f.within.1, length_alike ls bs e)) in
      record {
        within = within;
        here = λ l at.
            let i = n - 1 in
            let room : i < length ls = omega (arith, f.within.0, f.within.1) in
            let x = get_or ls i l in
            ap takes at.1 ∙ sym (takes_alike x (get_or bs i l) (at_alike ls bs e i l room)) ∙ f.here x (f.within, get_or_default ls i l x room);
        before = taken_alike (n - 1) (omega (arith, f.within.1)) f.before;
      }

  figures_alike : (p : List ℕ) → Figures demand ls (length ls) p → Figures demand bs (length bs) p
  figures_alike p f = record {
    size = f.size;
    each = λ i h d.
        let k : i < length ls = omega (arith, h, length_alike ls bs e) in
        figure_alike (take i ls) (take i bs) (get_or ls i d) (get_or bs i d) (take_alike ls bs e i) (at_alike ls bs e i d k) (f.each i k d);
    past = λ i h. f.past i (omega (arith, h, length_alike ls bs e));
  }

  answered_alike : (p : List ℕ) (r : Result Bool Refusal) → Answered takes demand ls p r → Answered takes demand bs p r
  answered_alike p r (worked_out {b} some taken f d) =
      let count = length_alike ls bs e in
      worked_out (omega (arith, some, count)) (subst (Taken takes bs) count (taken_alike (length ls) (omega arith) taken)) (figures_alike p f) (subst (λ (n : ℕ). Decides b (Admitted n p)) count d)
  answered_alike p r (no_lines empty cleared) = no_lines (sym (length_alike ls bs e) ∙ empty) cleared
  answered_alike p r (declined {n} f cleared) = declined (declined_alike n f) cleared

  pub answer_alike : (p q : List ℕ) (r s : Result Bool Refusal) → Answered takes demand ls p r → Answered takes demand bs q s → (r ≡ s) × (p ≡ q)
  answer_alike p q r s x y = answered_one takes demand bs p q r s (answered_alike p r x) y
