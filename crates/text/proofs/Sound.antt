-- A text that is read is its rows, written out.
use Rattle.std.proofs.Common.{◌≡◌, ℕ, ◌≤◌, List, [], ◌∷◌, ◌++◌, length, Some, None, Ok, Err, Option, Result, sym, refl, ap, ◌∙◌, subst, append_assoc, append-nil, arith}
use lib.ListN.{length-map}
use Rattle.std.proofs.lemmas.Bool.{leb-true, eqb-true}
use Rattle.tasks.specs.Rows.{Row, row_of, rows_of}
use Rattle.tasks.specs.Tables.{lines_of}
use Rattle.tasks.specs.declared.refusal.Refusal.{Refusal}
use Rattle.tasks.specs.declared.table.Table.{Table}
use Rattle.text.specs.Cuts.{Placed, lines_in, fields_in}
use Rattle.text.specs.Rules.{first_broken, num, text_rules, line_rules}
use Rattle.text.specs.Reading.{unless, and_then, row_said, with_line, with_lines, reading}
use Rattle.text.specs.Law.{with_commas, LineOf, Writes, IsTextOf}
use Rattle.text.proofs.Broken.{AllKept, all_kept}
use Rattle.text.proofs.Joining.{between, fed, between_parted, fed_ended, fed_some}
use Rattle.text.proofs.Spelling.{number_back, stands}
use Rattle.text.proofs.Techniques.{word_back}

-- ---- answers, taken apart

unless_ok : {X : Type 0} (o : Option Refusal) (r : Result X Refusal) (x : X) → unless o r ≡ Ok x → (o ≡ None) × (r ≡ Ok x)
unless_ok None r x h = (refl, h)
unless_ok (Some e) r x h = absurd cc

then_ok : {X Y : Type 0} (o : Result X Refusal) (f : X → Result Y Refusal) (y : Y) → and_then o f ≡ Ok y → (x : X) × (o ≡ Ok x) × (f x ≡ Ok y)
then_ok (Ok x) f y h = (x, refl, h)
then_ok (Err e) f y h = absurd cc

same_ok : {X : Type 0} (x y : X) → ◌≡◌ {A = Result X Refusal} (Ok x) (Ok y) → x ≡ y
same_ok x y h = cc

-- ---- a line

module _ (up : List Row) (l : Placed) (a t m k w u d c p : Placed) where
  abbrev nine : List Placed
  nine = a ∷ t ∷ m ∷ k ∷ w ∷ u ∷ d ∷ c ∷ p ∷ []

  nine_line : AllKept (line_rules up l nine) → LineOf (between nine) (row_said nine)
  nine_line q =
      let f = q.1.1 in
      let g = f.1.1.1.1.1.1.1.1 in
      record {
        word = w.bytes;
        name_is = f.0;
        word_is = stands (num m) (num k) w.bytes f.1.1.1.1.1.1.0 f.1.1.1.1.1.1.1.0;
        is = (λ i. with_commas a.bytes
            (word_back t.bytes f.1.0 i
            ∷ sym (number_back m.bytes f.1.1.0) i
            ∷ sym (number_back k.bytes f.1.1.1.0) i
            ∷ w.bytes
            ∷ sym (number_back u.bytes g.0) i
            ∷ sym (number_back d.bytes g.1.0) i
            ∷ sym (number_back c.bytes g.1.1.1.0) i
            ∷ sym (number_back p.bytes g.1.1.1.1.1.0) i
            ∷ []));
      }

list_line : (up : List Row) (l : Placed) (fs : List Placed) → length fs ≡ 9 → AllKept (line_rules up l fs) → LineOf (between fs) (row_said fs)
list_line up l [] e h = absurd (omega arith)
list_line up l (a ∷ []) e h = absurd (omega arith)
list_line up l (a ∷ t ∷ []) e h = absurd (omega arith)
list_line up l (a ∷ t ∷ m ∷ []) e h = absurd (omega arith)
list_line up l (a ∷ t ∷ m ∷ k ∷ []) e h = absurd (omega arith)
list_line up l (a ∷ t ∷ m ∷ k ∷ w ∷ []) e h = absurd (omega arith)
list_line up l (a ∷ t ∷ m ∷ k ∷ w ∷ u ∷ []) e h = absurd (omega arith)
list_line up l (a ∷ t ∷ m ∷ k ∷ w ∷ u ∷ d ∷ []) e h = absurd (omega arith)
list_line up l (a ∷ t ∷ m ∷ k ∷ w ∷ u ∷ d ∷ c ∷ []) e h = absurd (omega arith)
list_line up l (a ∷ t ∷ m ∷ k ∷ w ∷ u ∷ d ∷ c ∷ p ∷ []) e h = nine_line up l a t m k w u d c p h
list_line up l (a ∷ t ∷ m ∷ k ∷ w ∷ u ∷ d ∷ c ∷ p ∷ x ∷ xs) e h = absurd (omega arith)

line_written : (up rows : List Row) (l : Placed) → with_line up l ≡ Ok rows → (r : Row) × (rows ≡ up ++ (r ∷ [])) × LineOf l.bytes r
line_written up rows l h =
    let fs = fields_in l in
    let q = unless_ok (first_broken (line_rules up l fs)) (Ok (up ++ (row_said fs ∷ []))) rows h in
    let kept = all_kept (line_rules up l fs) q.0 in (
      row_said fs,
      sym (same_ok (up ++ (row_said fs ∷ [])) rows q.1),
      subst (λ bs. LineOf bs (row_said fs)) (between_parted l.place l.bytes) (list_line up l fs (eqb-true (length fs) 9 kept.1.0) kept),
    )

-- ---- lines

lines_written : (ls : List Placed) (up rs : List Row) → with_lines up ls ≡ Ok rs → (new : List Row) × (rs ≡ up ++ new) × Writes (fed ls) new × (length ls ≤ length new)
lines_written [] up rs h = ([], sym (same_ok up rs h) ∙ sym (append-nil up), refl, omega arith)
lines_written (l ∷ ls) up rs h =
    let s = then_ok (with_line up l) (λ rows. with_lines rows ls) rs h in
    let w = line_written up s.0 l s.1 in
    let i = lines_written ls s.0 rs s.2 in (
      w.0 ∷ i.0,
      i.1 ∙ ap (λ xs. xs ++ i.0) w.1 ∙ append_assoc up (w.0 ∷ []) i.0,
      (l.bytes, fed ls, refl, w.2, i.2),
      omega (arith, i.3),
    )

pub sound : (text : List ℕ) (t : Table) → reading text ≡ Ok (rows_of t) → IsTextOf text t
unfolding reading
sound text t h =
    let q = unless_ok (first_broken (text_rules text)) (with_lines [] (lines_in text)) (rows_of t) h in
    let kept = all_kept (text_rules text) q.0 in
    let e = eqb-true _ 10 kept.1.1.0 in
    let s = lines_written (lines_in text) [] (rows_of t) q.1 in
    let f = fed_ended 0 text e in
    record {
      small = leb-true (length text) 8192 kept.1.0;
      some = omega (arith, fed_some (lines_in text) text e f, s.3, ap length s.1, length-map (lines_of t) row_of);
      written = subst (λ x. Writes x (rows_of t)) f (subst (λ rs. Writes (fed (lines_in text)) rs) (sym s.1) s.2);
    }
