-- A line held to the rules, against the lines above it.
use Rattle.std.proofs.Common.{◌≡◌, ℕ, zero, suc, ◌+◌, ◌-◌, ◌<◌, ◌≤◌, Bool, true, false, cond, not, eqb, leb, List, [], ◌∷◌, ◌++◌, map, length, get_or, Some, None, Ok, Err, Option, sym, refl, ap, ◌∙◌, ⊎_elim, arith}
use lib.ListN.{length-map}
use Rattle.std.specs.Str.{bytes_eq}
use Rattle.std.proofs.lemmas.Slice.Eq.{bytes_eq-Decides}
use Rattle.std.proofs.lemmas.List.{map_push}
use Rattle.std.proofs.lemmas.Bool.{le-leb, lt-leb, or_cases, or_left, or_right, cases_Bool, false≢true}
use Rattle.tasks.specs.Lines.{names, periods}
use Rattle.tasks.specs.Named.{name_bytes}
use Rattle.tasks.specs.Rows.{Row, row_of}
use Rattle.tasks.specs.Tables.{Used, last_period}
use Rattle.tasks.specs.declared.line.Line.{Line}
use Rattle.tasks.specs.declared.refusal.Refusal.{Refusal}
use Rattle.tasks.specs.declared.refusal.Refusal.TheVariants as refusal
use Rattle.text.specs.Cuts.{Placed, fields_in}
use Rattle.text.specs.Rules.{Rule, first_broken, field, used, period_above, count_rules, head_rules, time_rules, table_rules}
use Rattle.text.specs.Reading.{unless, row_said, with_fields, with_line}
use Rattle.text.proofs.Broken.{broken_first, broken_second, none_broken}

-- ---- names and periods of rows

used_from : (x : List ℕ) (ls : List Line) (i : ℕ) → i < length ls → get_or (names ls) i [] ≡ x → used x (map row_of ls) ≡ true
used_from x [] i h e = absurd (omega arith)
used_from x (l ∷ ls) zero h e = or_left (bytes_eq (name_bytes l.name) x) (used x (map row_of ls)) ((bytes_eq-Decides (name_bytes l.name) x).1 e)
used_from x (l ∷ ls) (suc i) h e = or_right (bytes_eq (name_bytes l.name) x) (used x (map row_of ls)) (used_from x ls i (omega arith) e)

used_to : (x : List ℕ) (ls : List Line) → used x (map row_of ls) ≡ true → Used x ls
used_to x [] e = absurd (false≢true e)
used_to x (l ∷ ls) e =
    ⊎_elim
    (λ (t : bytes_eq (name_bytes l.name) x ≡ true). (0, omega arith, (bytes_eq-Decides (name_bytes l.name) x).0 t))
    (λ (t : used x (map row_of ls) ≡ true). let u = used_to x ls t in (suc u.0, omega (arith, u.1), u.2))
    (or_cases (bytes_eq (name_bytes l.name) x) (used x (map row_of ls)) e)

pub not_used : (x : List ℕ) (ls : List Line) → (Used x ls → ⊥) → used x (map row_of ls) ≡ false
not_used x ls n = ⊎_elim (λ (t : used x (map row_of ls) ≡ true). absurd (n (used_to x ls t))) (λ f. f) (cases_Bool (used x (map row_of ls)))

periods_are : (ls : List Line) → map (λ (r : Row). r.period) (map row_of ls) ≡ periods ls
periods_are [] = refl
periods_are (l ∷ ls) = ap (λ ps. l.period ∷ ps) (periods_are ls)

pub above_is : (ls : List Line) → period_above (map row_of ls) ≡ last_period ls
above_is ls = (λ i. get_or (periods_are ls i) (length-map ls row_of i - 1) 0)

-- ---- the rules of a line, in parts

abbrev rules_at : ℕ → List Row → Placed → List Placed → List Rule
rules_at n up l fs = count_rules n l fs ++ (head_rules n fs ++ (time_rules n fs ++ table_rules n up fs))

module _ (up : List Row) (l : Placed) (fs : List Placed) (cut : fields_in l ≡ fs) (n : ℕ) (at : n ≡ length up + 1) where
  line_is : (o : Option Refusal) → first_broken (rules_at n up l fs) ≡ o → with_line up l ≡ unless o (Ok (up ++ (row_said fs ∷ [])))
  line_is o e =
      ap (with_fields up l) cut
      ∙ ap (λ x. unless (first_broken (rules_at x up l fs)) (Ok (up ++ (row_said fs ∷ [])))) (sym at)
      ∙ ap (λ x. unless x (Ok (up ++ (row_said fs ∷ [])))) e

  module _ (few : n ≤ 32) (nine : eqb (length fs) 9 ≡ true) where
    counted : first_broken (count_rules n l fs) ≡ None
    counted = none_broken (count_rules n l fs) (le-leb n 32 few, (nine, tt))

    pub by_fields : (e : Refusal) → first_broken (head_rules n fs ++ time_rules n fs) ≡ Some e → with_line up l ≡ Err e
    by_fields e h =
        line_is (Some e)
        (broken_second (count_rules n l fs) (head_rules n fs ++ (time_rules n fs ++ table_rules n up fs)) counted
        ∙ broken_first (head_rules n fs ++ time_rules n fs) (table_rules n up fs) e h)

    pub by_table : first_broken (head_rules n fs ++ time_rules n fs) ≡ None → (a b : Bool) → used (field fs 0).bytes up ≡ a → leb (period_above up) (row_said fs).period ≡ b →
        with_line up l ≡ unless (cond (not a) (cond b None (Some (refusal.PeriodFalls n (field fs 8).place))) (Some (refusal.NameUsed n (field fs 0).place))) (Ok (up ++ (row_said fs ∷ [])))
    by_table h a b p q =
        line_is (cond (not a) (cond b None (Some (refusal.PeriodFalls n (field fs 8).place))) (Some (refusal.NameUsed n (field fs 0).place)))
        (broken_second (count_rules n l fs) (head_rules n fs ++ (time_rules n fs ++ table_rules n up fs)) counted
        ∙ broken_second (head_rules n fs ++ time_rules n fs) (table_rules n up fs) h
        ∙ (λ i. cond (not (p i)) (cond (q i) None (Some (refusal.PeriodFalls n (field fs 8).place))) (Some (refusal.NameUsed n (field fs 0).place))))

-- ---- a line that is pushed, or not

module _ (ls : List Line) (l : Placed) (fs : List Placed) (cut : fields_in l ≡ fs) (n : ℕ) (at : n ≡ length ls + 1) (few : n ≤ 32) (nine : eqb (length fs) 9 ≡ true) (none : first_broken (head_rules n fs ++ time_rules n fs) ≡ None) (x : Line) (row : row_of x ≡ row_said fs) where
  number : n ≡ length (map row_of ls) + 1
  number = omega (arith, length-map ls row_of)

  name_test : (a : Bool) → used (name_bytes x.name) (map row_of ls) ≡ a → used (field fs 0).bytes (map row_of ls) ≡ a
  name_test a e = ap (λ (r : Row). used r.name (map row_of ls)) (sym row) ∙ e

  period_test : (b : Bool) → leb (last_period ls) x.period ≡ b → leb (period_above (map row_of ls)) (row_said fs).period ≡ b
  period_test b e = (λ i. leb (above_is ls i) (sym row i).period) ∙ e

  pub pushed : (Used (name_bytes x.name) ls → ⊥) → last_period ls ≤ x.period → with_line (map row_of ls) l ≡ Ok (map row_of (ls ++ (x ∷ [])))
  pushed new rising =
      by_table (map row_of ls) l fs cut n number few nine none false true (name_test false (not_used (name_bytes x.name) ls new)) (period_test true (le-leb (last_period ls) x.period rising))
      ∙ ap (λ r. Ok (map row_of ls ++ (r ∷ []))) (sym row)
      ∙ ap (λ rs. Ok rs) (sym (map_push row_of ls x))

  pub name_used : Used (name_bytes x.name) ls → with_line (map row_of ls) l ≡ Err (refusal.NameUsed n (field fs 0).place)
  name_used old =
      by_table (map row_of ls) l fs cut n number few nine none true (leb (period_above (map row_of ls)) (row_said fs).period) (name_test true (used_from (name_bytes x.name) ls old.0 old.1 old.2)) refl

  pub period_falls : (Used (name_bytes x.name) ls → ⊥) → x.period < last_period ls → with_line (map row_of ls) l ≡ Err (refusal.PeriodFalls n (field fs 8).place)
  period_falls new falling =
      by_table (map row_of ls) l fs cut n number few nine none false false (name_test false (not_used (name_bytes x.name) ls new)) (period_test false (lt-leb (last_period ls) x.period falling))
