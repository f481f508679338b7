-- Lines by what they say.
use Rattle.std.proofs.Common.{◌≡◌, List, [], ◌∷◌, map, length, refl, ap, subst, arith}
use Rattle.tasks.specs.declared.name.Name.{Name}
use Rattle.tasks.specs.declared.line.Times.{Times}
use Rattle.tasks.specs.declared.line.Line.{Line}
use Rattle.tasks.specs.Lines.{Lawful}
use Rattle.tasks.specs.Rows.{Row, row_of}

abbrev pub times_said : Row → Times
times_said r = record { bare = r.bare; detect = r.detect; correct = r.correct }

-- the values keep the rules of a line
abbrev pub Fit : Row → Type 0
Fit r = Lawful r.m r.k r.word (times_said r) r.period

-- the line with the name and the row's other values
abbrev pub line_said : (r : Row) → Name → Fit r → Line
line_said r n h = record {
  name = n;
  technique = r.technique;
  m = r.m;
  k = r.k;
  word = r.word;
  times = times_said r;
  period = r.period;
  window = h.window;
  narrow = h.narrow;
  reliable = h.reliable;
  ordered = h.ordered;
}

pub line_is : (l : Line) (r : Row) → row_of l ≡ r → (n : Name) × (h : Fit r) × (l ≡ line_said r n h)
line_is l r e =
    let fit : Fit (row_of l) = record { window = l.window; narrow = l.narrow; reliable = l.reliable; ordered = l.ordered } in
    subst (λ (x : Row). (n : Name) × (h : Fit x) × (l ≡ line_said x n h)) e (l.name, fit, refl)

pub one_line : (ls : List Line) (r : Row) → map row_of ls ≡ r ∷ [] → (n : Name) × (h : Fit r) × (ls ≡ line_said r n h ∷ [])
one_line [] r e = absurd (omega (arith, ap length e))
one_line (l ∷ []) r e =
    let here : row_of l ≡ r = cc in
    let is = line_is l r here in
    (is.0, is.1, λ i. is.2 i ∷ [])
one_line (l ∷ k ∷ ls) r e = absurd (omega (arith, ap length e))

pub two_lines : (ls : List Line) (a b : Row) → map row_of ls ≡ a ∷ b ∷ [] → (n o : Name) × (h : Fit a) × (k : Fit b) × (ls ≡ line_said a n h ∷ line_said b o k ∷ [])
two_lines [] a b e = absurd (omega (arith, ap length e))
two_lines (l ∷ []) a b e = absurd (omega (arith, ap length e))
two_lines (l ∷ u ∷ []) a b e =
    let here : row_of l ≡ a = cc in
    let next : row_of u ≡ b = cc in
    let is = line_is l a here in
    let is' = line_is u b next in
    (is.0, is'.0, is.1, is'.1, λ i. is.2 i ∷ is'.2 i ∷ [])
two_lines (l ∷ u ∷ x ∷ ls) a b e = absurd (omega (arith, ap length e))
