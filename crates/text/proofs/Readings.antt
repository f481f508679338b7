-- A text that keeps the rules of a text is read line by line.
use Rattle.std.proofs.Common.{◌≡◌, ℕ, ◌<◌, ◌≤◌, Bool, true, false, cond, ◌&&◌, eqb, leb, List, [], length, Some, None, Ok, Err, Result, refl, ap, ◌∙◌, ⊎_elim, arith, MatchResult}
use Rattle.std.proofs.lemmas.Bool.{le-leb, eqb-true, true≢false, cases_lt}
use Rattle.tasks.specs.Rows.{rows_of}
use Rattle.tasks.specs.declared.refusal.Refusal.{Refusal}
use Rattle.tasks.specs.declared.refusal.Refusal.TheVariants.{Text}
use Rattle.tasks.specs.declared.table.Table.{Table}
use Rattle.text.specs.Cuts.{last_byte, lines_in}
use Rattle.text.specs.Rules.{text_rules}
use Rattle.text.specs.Reading.{unless, with_lines, reading}
use Rattle.text.proofs.Broken.{none_broken}
use Rattle.text.proofs.Steps.{last_none}

module _ (text : List ℕ) (small : length text ≤ 8192) (fed : eqb (last_byte text) 10 ≡ true) where
  pub some_bytes : 1 ≤ length text
  some_bytes =
      ⊎_elim (λ (some : 0 < length text). some) (λ (none : length text ≤ 0). absurd (omega (arith, last_none text (omega arith), eqb-true (last_byte text) 10 fed))) (cases_lt 0 (length text))

  pub reading_is : reading text ≡ with_lines [] (lines_in text)
  unfolding reading
  reading_is =
      ap (λ o. unless o (with_lines [] (lines_in text))) (none_broken (text_rules text) (le-leb 1 (length text) some_bytes, (le-leb (length text) 8192 small, (fed, tt))))

  pub loaded : (r : Result Unit Refusal) (t : Table) → MatchResult r (λ _. with_lines [] (lines_in text) ≡ Ok (rows_of t)) (λ e. with_lines [] (lines_in text) ≡ Err e) → MatchResult r (λ _. reading text ≡ Ok (rows_of t)) (λ e. reading text ≡ Err e)
  loaded (Ok x) t h = reading_is ∙ h
  loaded (Err x) t h = reading_is ∙ h

broken_text : (a b c : Bool) (e : Refusal) → (b && c) ≡ false → cond a (cond b (cond c None (Some e)) (Some e)) (Some e) ≡ Some e
broken_text false b c e h = refl
broken_text true false c e h = refl
broken_text true true false e h = refl
broken_text true true true e h = absurd (true≢false h)

pub refused_text : (text : List ℕ) → (leb (length text) 8192 && eqb (last_byte text) 10) ≡ false → reading text ≡ Err Text
unfolding reading
refused_text text h =
    ap (λ o. unless o (with_lines [] (lines_in text))) (broken_text (leb 1 (length text)) (leb (length text) 8192) (eqb (last_byte text) 10) Text h)
