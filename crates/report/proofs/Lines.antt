-- The lines of a report, written one after the other.
use Rattle.std.proofs.Common.{◌≡◌, ℕ, ◌+◌, ◌-◌, ◌<◌, ◌≤◌, List, ◌++◌, length, get_or, drop, sym, ap, ◌∙◌, append_assoc, append-nil, arith}
use Rattle.std.proofs.lemmas.List.{at_drop_more, at_drop_all}
use Rattle.tasks.specs.declared.line.Line.{Line}
use Rattle.tasks.specs.Lines.{names}
use Rattle.tasks.specs.Named.{name_bytes}
use Rattle.report.specs.Answer.{figure_line, figure_lines}

module _ (ls : List Line) (places : List ℕ) (i : ℕ) where
  -- a loop's turn: one line more is written
  pub figure_more : (l : Line) (out out' : List ℕ) → i < length ls → l ≡ get_or ls i l → out' ≡ out ++ figure_line (i + 1) (name_bytes l.name) (get_or places i 0) →
      out' ++ figure_lines (i + 1 + 1) (names (drop (i + 1) ls)) places ≡ out ++ figure_lines (i + 1) (names (drop i ls)) places
  figure_more l out out' h is e =
      let rest = figure_lines (i + 1 + 1) (names (drop (i + 1) ls)) places in
      let at : i ≡ i + 1 - 1 = omega arith in
      let here : figure_lines (i + 1) (names (drop i ls)) places ≡ figure_line (i + 1) (name_bytes (get_or ls i l).name) (get_or places (i + 1 - 1) 0) ++ rest = at_drop_more (λ ys. figure_lines (i + 1) (names ys) places) ls i l h in
      ap (λ bs. bs ++ rest) e
      ∙ append_assoc out (figure_line (i + 1) (name_bytes l.name) (get_or places i 0)) rest
      ∙ ap (λ j. out ++ (figure_line (i + 1) (name_bytes l.name) (get_or places j 0) ++ rest)) at
      ∙ ap (λ (y : Line). out ++ (figure_line (i + 1) (name_bytes y.name) (get_or places (i + 1 - 1) 0) ++ rest)) is
      ∙ ap (λ bs. out ++ bs) (sym here)

  -- its end: all lines are written
  pub figure_all : (out : List ℕ) → length ls ≤ i → out ≡ out ++ figure_lines (i + 1) (names (drop i ls)) places
  figure_all out h = sym (append-nil out) ∙ ap (λ bs. out ++ bs) (sym (at_drop_all (λ ys. figure_lines (i + 1) (names ys) places) ls i h))
