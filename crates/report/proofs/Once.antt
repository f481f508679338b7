-- A text has one answer.
use Rattle.std.proofs.Common.{◌≡◌, ℕ, List, [], ◌∷◌, ◌++◌, map, Ok, Err, sym, refl, ap, ◌∙◌, subst}
use Rattle.tasks.specs.declared.line.Line.{Line}
use Rattle.tasks.specs.declared.refusal.Refusal.{Refusal}
use Rattle.tasks.specs.Lines.{names}
use Rattle.tasks.specs.Rows.{Row, row_of}
use Rattle.tasks.specs.Tables.{lines_of}
use Rattle.text.specs.Reading.{reading}
use Rattle.report.specs.Answer.{figure_lines, verdict_line, refusal_line, Answers, unread, refused, worked_out, TheAnswer}
use Rattle.report.proofs.Alike.{answer_alike}

names_said : (ls : List Line) → names ls ≡ map (λ (r : Row). r.name) (map row_of ls)
names_said [] = refl
names_said (l ∷ ls) = ap (λ xs. (row_of l).name ∷ xs) (names_said ls)

module _ (text : List ℕ) where
  one_reading : {rs ss : List Row} → reading text ≡ Ok rs → reading text ≡ Ok ss → rs ≡ ss
  one_reading a b = cc

  not_both : {rs : List Row} {e : Refusal} → reading text ≡ Ok rs → reading text ≡ Err e → ⊥
  not_both a b = cc

  pub one_answer : {a b : List ℕ} → Answers text a → Answers text b → a ≡ b
  one_answer (unread {e} x) (unread {e = f} y) = let same : e ≡ f = cc in ap refusal_line same
  one_answer (unread x) (refused t y g) = absurd (not_both y x)
  one_answer (unread x) (worked_out t y g) = absurd (not_both y x)
  one_answer (refused t x f) (unread y) = absurd (not_both x y)
  one_answer (refused t {places = p} {e = e} x f) (refused u {places = q} {e = e'} y g) =
      let alike : Err e ≡ Err e' = (answer_alike (lines_of t) (lines_of u) (one_reading x y) p q (Err e) (Err e') f g).0 in
      let same : e ≡ e' = cc in
      ap refusal_line same
  one_answer (refused t {places = p} {e = e} x f) (worked_out u {places = q} {admitted = b} y g) =
      let apart : Err e ≡ Ok b = (answer_alike (lines_of t) (lines_of u) (one_reading x y) p q (Err e) (Ok b) f g).0 in
      absurd cc
  one_answer (worked_out t x f) (unread y) = absurd (not_both x y)
  one_answer (worked_out t {places = p} {admitted = b} x f) (refused u {places = q} {e = e} y g) =
      let apart : Ok b ≡ Err e = (answer_alike (lines_of t) (lines_of u) (one_reading x y) p q (Ok b) (Err e) f g).0 in
      absurd cc
  one_answer (worked_out t {places = p} {admitted = b} x f) (worked_out u {places = q} {admitted = b'} y g) =
      let alike = answer_alike (lines_of t) (lines_of u) (one_reading x y) p q (Ok b) (Ok b') f g in
      let told : Ok b ≡ Ok b' = alike.0 in
      let same : b ≡ b' = cc in
      let named : names (lines_of t) ≡ names (lines_of u) = names_said (lines_of t) ∙ ap (map (λ (r : Row). r.name)) (one_reading x y) ∙ sym (names_said (lines_of u)) in
      (λ i. figure_lines 1 (named i) (alike.1 i) ++ verdict_line (same i))

  pub the_answer : {a b : List ℕ} → b ≡ a → Answers text a → TheAnswer text b
  the_answer {a} {b} e x = record { answers = subst (λ (bs : List ℕ). Answers text bs) (sym e) x; only = λ other y. one_answer y x ∙ sym e }
