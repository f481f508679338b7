-- The figures of a camera and an arm below it.
use Rattle.std.proofs.Common.{◌≡◌, ℕ, ◌+◌, ◌<◌, ◌≤◌, Bool, true, false, List, [], ◌∷◌, ◌++◌, map, replicate, Ok, Err, codes, Decides, Result, sym, refl, ap, ◌∙◌, ⊎_elim, arith, lit<, lit≤}
use Rattle.std.specs.Fmt.{digits}
use Rattle.std.proofs.lemmas.Bool.{cases_lt, both_ways}
use Rattle.words.specs.Bits.{word_of}
use Rattle.words.specs.Patterns.{up}
use Rattle.words.specs.Sums.{sum_below, row, greatest_below, greatest_row}
use Rattle.tasks.specs.declared.line.Line.{Line}
use Rattle.tasks.specs.declared.name.Name.{Name}
use Rattle.tasks.specs.declared.technique.Technique.{Technique}
use Rattle.tasks.specs.declared.technique.Technique.TheVariants.{Sre, Dre}
use Rattle.tasks.specs.declared.refusal.Refusal.{Refusal}
use Rattle.tasks.specs.Lines.{names}
use Rattle.tasks.specs.Rows.{Row, row_of, rows_of}
use Rattle.tasks.specs.Tables.{lines_of}
use Rattle.response.specs.Figures.{load_above, Passes, Figure, smallest, none, Admitted, Answered}
use Rattle.text.specs.Reading.{reading}
use Rattle.report.specs.Answer.{takes, demand, figure_lines, verdict_line, Answers, unread, refused, worked_out}
use Rattle.report.proofs.Alike.{answer_alike}
use Rattle.examples.specs.Cameras.{cameras, cameras_r, cameras_dre, report_told, figures_told, Figured}
use Rattle.examples.proofs.Figures.{placed, some_at, worked}
use Rattle.examples.proofs.Lines.{Fit, line_said, two_lines}

-- ---- what the texts say

-- the camera by its technique and word
abbrev cam : Technique → ℕ → Row
cam t w = record { name = codes "CAM"; technique = t; m = 2; k = 4; word = w; bare = 10; detect = 11; correct = 20; period = 40 }

abbrev arm : Row
arm = record { name = codes "ARM"; technique = Sre; m = 1; k = 1; word = 1; bare = 30; detect = 40; correct = 50; period = 80 }

cameras_said : reading cameras ≡ Ok (cam Sre 10 ∷ arm ∷ [])
unfolding reading word_of sum_below
cameras_said = refl

cameras_r_said : reading cameras_r ≡ Ok (cam Sre 12 ∷ arm ∷ [])
unfolding reading word_of sum_below
cameras_r_said = refl

cameras_dre_said : reading cameras_dre ≡ Ok (cam Dre 10 ∷ arm ∷ [])
unfolding reading word_of sum_below
cameras_dre_said = refl

-- ---- their figures, where one job of the camera demands 20 and two demand x

module _ (t : Technique) (w x : ℕ) (n o : Name) (h : Fit (cam t w)) (k : Fit arm) where
  abbrev l : Line
  l = line_said (cam t w) n h

  abbrev u : Line
  u = line_said arm o k

  arm_asks : demand u 1 ≡ 50
  unfolding greatest_row greatest_below row sum_below
  arm_asks = refl

  module _ (taken : takes l ≡ true) (one : demand l 1 ≡ 20) (two : demand l 2 ≡ x) where
    first : Figure demand [] l 20
    first = smallest (lit≤ tt) (lit≤ tt) (omega (arith, one)) (λ s a b p. omega (arith, one, p))

    load_at : (s j : ℕ) → up s 40 ≡ j → load_above demand (l ∷ []) s ≡ 0 + demand l j
    load_at s j e = ap (λ y. 0 + demand l y) e

    -- a time that passes holds a job of the arm and two of the camera
    two_fit : 20 ≤ x → (s : ℕ) → 1 ≤ s → s ≤ 80 → Passes demand (l ∷ []) u s → 50 + x ≤ s
    two_fit some s a b p =
        ⊎_elim
        (λ (early : s < 41). let once : up s 40 ≡ 1 = omega arith in absurd (omega (arith, p, load_at s 1 once, one, arm_asks)))
        (λ (late : 41 ≤ s). let twice : up s 40 ≡ 2 = omega arith in omega (arith, p, load_at s 2 twice, two, arm_asks))
        (cases_lt s 41)

    pair : (f : ℕ) (v : Bool) → Figure demand (l ∷ []) u f → Decides v (Admitted 2 (placed (20 ∷ f ∷ []))) → Answered takes demand (l ∷ u ∷ []) (placed (20 ∷ f ∷ [])) (Ok v)
    pair f v second decides = worked (l ∷ u ∷ []) (20 ∷ f ∷ []) v (lit≤ tt) (lit≤ tt) refl (taken, first, (refl, second, tt)) decides

    met : x ≡ 30 → Answered takes demand (l ∷ u ∷ []) (placed (20 ∷ 80 ∷ [])) (Ok true)
    met is =
        let second : Figure demand (l ∷ []) u 80 =
        smallest (lit≤ tt) (lit≤ tt) (omega (arith, load_at 80 2 refl, two, arm_asks)) (λ s a b p. omega (arith, two_fit (omega arith) s a (omega arith) p)) in
        pair 80 true second ((λ e. some_at (replicate 30 0) (20 ∷ 80 ∷ []) (lit≤ tt, (lit≤ tt, tt))), λ all. refl)

    missed : 31 ≤ x → Answered takes demand (l ∷ u ∷ []) figures_told (Ok false)
    missed much =
        pair 0 false
        (none (λ s a b p. omega (arith, two_fit (omega arith) s a b p)))
        ((λ e. absurd (both_ways false refl e)), λ all. absurd (omega (arith, all 1 (lit< tt))))

-- ---- the figures of any lines that say so

module _ (a : Row) (fs : List ℕ) (v : Bool) (known : (n o : Name) (h : Fit a) (k : Fit arm) → Answered takes demand (line_said a n h ∷ line_said arm o k ∷ []) fs (Ok v)) where
  answered_so : (ls : List Line) → map row_of ls ≡ a ∷ arm ∷ [] → (places : List ℕ) (r : Result Bool Refusal) → Answered takes demand ls places r → (r ≡ Ok v) × (places ≡ fs) × (names ls ≡ a.name ∷ arm.name ∷ [])
  answered_so ls e places r x =
      let is = two_lines ls a arm e in
      let so = line_said a is.0 is.2 ∷ line_said arm is.1 is.3 ∷ [] in
      let same = answer_alike ls so (ap (map row_of) is.4) places fs r (Ok v) x (known is.0 is.1 is.2 is.3) in
      let name : Row → List ℕ = λ y. y.name in
      (same.0, same.1, ap names is.4 ∙ sym (ap (λ (ys : List Line). map name (map row_of ys)) is.4) ∙ ap (map name) e)

pub figured_by_r : (places : List ℕ) → Figured cameras_r places → places ≡ figures_told
unfolding greatest_row greatest_below row sum_below
figured_by_r places f =
    let x = f (cam Sre 12 ∷ arm ∷ []) cameras_r_said in
    (answered_so (cam Sre 12) figures_told false (λ n o h k. missed Sre 12 40 n o h k refl refl refl (lit≤ tt)) (lines_of x.0) x.2 places x.1 x.3).1

pub figured_by_dre : (places : List ℕ) → Figured cameras_dre places → places ≡ figures_told
unfolding greatest_row greatest_below row sum_below
figured_by_dre places f =
    let x = f (cam Dre 10 ∷ arm ∷ []) cameras_dre_said in
    (answered_so (cam Dre 10) figures_told false (λ n o h k. missed Dre 10 31 n o h k refl refl refl (lit≤ tt)) (lines_of x.0) x.2 places x.1 x.3).1

-- ---- the report

reported_figures : (ls : List Line) → map row_of ls ≡ cam Sre 10 ∷ arm ∷ [] → (places : List ℕ) (r : Result Bool Refusal) → Answered takes demand ls places r
    → (r ≡ Ok true) × (places ≡ placed (20 ∷ 80 ∷ [])) × (names ls ≡ codes "CAM" ∷ codes "ARM" ∷ [])
unfolding greatest_row greatest_below row sum_below
reported_figures = answered_so (cam Sre 10) (placed (20 ∷ 80 ∷ [])) true (λ n o h k. met Sre 10 30 n o h k refl refl refl refl)

pub reported_so : {bytes : List ℕ} → Answers cameras bytes → bytes ≡ report_told
unfolding digits
reported_so (unread x) = cc cameras_said
reported_so (refused t {places = places} {e = e} x f) =
    let rows : rows_of t ≡ cam Sre 10 ∷ arm ∷ [] = cc cameras_said in
    let so : Err e ≡ Ok true = (reported_figures (lines_of t) rows places (Err e) f).0 in
    cc
reported_so (worked_out t {places = places} {admitted = v} x f) =
    let rows : rows_of t ≡ cam Sre 10 ∷ arm ∷ [] = cc cameras_said in
    let so = reported_figures (lines_of t) rows places (Ok v) f in
    let told : Ok v ≡ Ok true = so.0 in
    let same : v ≡ true = cc in
    (λ i. figure_lines 1 (so.2 i) (so.1 i) ++ verdict_line (same i))
