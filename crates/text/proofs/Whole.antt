-- A table that is written out is read.
use Rattle.std.proofs.Common.{◌≡◌, ℕ, ◌+◌, ◌<◌, ◌≤◌, true, List, [], ◌∷◌, ◌++◌, map, length, None, Ok, decimal, sym, refl, ap, ◌∙◌, subst, append_assoc, append-nil, arith}
use lib.ListN.{length-map}
use Rattle.std.proofs.lemmas.Bool.{le-leb, lt-ltb, eq-eqb}
use Rattle.tasks.specs.Rows.{Row, row_of, rows_of}
use Rattle.tasks.specs.Spelled.{technique_word}
use Rattle.tasks.specs.Named.{name_bytes}
use Rattle.tasks.specs.Tables.{lines_of, Used, last_period}
use Rattle.tasks.specs.declared.line.Line.{Line}
use Rattle.tasks.specs.declared.table.Table.{Table}
use Rattle.text.specs.Cuts.{placed, ended, count, last_byte, fields_in}
use Rattle.text.specs.Rules.{first_broken, head_rules, time_rules}
use Rattle.text.specs.Reading.{and_then, row_said, with_line, with_lines, reading}
use Rattle.text.specs.Forms.{is_technique}
use Rattle.text.specs.Values.{technique_of, number_of}
use Rattle.text.specs.Law.{LineOf, Writes, IsTextOf}
use Rattle.text.proofs.Broken.{none_broken}
use Rattle.text.proofs.Growth.{Fit, table_fits}
use Rattle.text.proofs.Joining.{parts_of, AllLack, parted_commas, commas_lack, joined, last_append, last_more}
use Rattle.text.proofs.Readings.{reading_is}
use Rattle.text.proofs.Spelling.{Number, numbered, name_lacks, technique_lacks, Fine, fine}
use Rattle.text.proofs.Tables.{pushed}
use Rattle.text.proofs.Techniques.{named}

-- ---- a line that is written out

-- the fields behind the name
abbrev others : Line → List ℕ → List (List ℕ)
others l word =
    technique_word l.technique ∷ decimal l.m ∷ decimal l.k ∷ word
    ∷ decimal l.times.bare ∷ decimal l.times.detect ∷ decimal l.times.correct ∷ decimal l.period ∷ []

module _ (l : Line) (bs : List ℕ) (s : LineOf bs (row_of l)) where
  m : Number l.m
  m = numbered l.m (omega (arith, l.window)) (omega (arith, l.window))

  k : Number l.k
  k = numbered l.k (omega (arith, l.window)) (omega (arith, l.window))

  u : Number l.times.bare
  u = numbered l.times.bare (omega (arith, l.ordered)) (omega (arith, l.ordered))

  d : Number l.times.detect
  d = numbered l.times.detect (omega (arith, l.ordered)) (omega (arith, l.ordered))

  r : Number l.times.correct
  r = numbered l.times.correct (omega (arith, l.ordered)) (omega (arith, l.ordered))

  p : Number l.period
  p = numbered l.period (omega (arith, l.ordered)) (omega (arith, l.ordered))

  technique : (is_technique (technique_word l.technique) ≡ true) × (l.technique ≡ technique_of (technique_word l.technique))
  technique = named (technique_word l.technique) l.technique refl

  -- the pattern, at the numbers that m and k write
  stood : Fine (number_of (decimal l.m)) (number_of (decimal l.k)) l.word s.word
  stood =
      subst (λ x. Fine x (number_of (decimal l.k)) l.word s.word) (sym m.value)
      (subst (λ x. Fine l.m x l.word s.word) (sym k.value)
      (fine l.m l.k l.word s.word (omega (arith, l.window)) (omega (arith, l.window)) l.narrow l.reliable s.word_is))

  lacking : AllLack (name_bytes l.name) (others l s.word)
  lacking =
      (name_lacks (name_bytes l.name) s.name_is, (technique_lacks l.technique, (m.lacks, (k.lacks, (stood.lacks, (u.lacks, (d.lacks, (r.lacks, p.lacks))))))))

  pub no_feed : count 10 bs ≡ 0
  no_feed = ap (count 10) s.is ∙ commas_lack (name_bytes l.name) (others l s.word) lacking

  fields : (q : ℕ) → fields_in (placed q bs) ≡ parts_of q (name_bytes l.name) (others l s.word)
  fields q = ap (λ x. fields_in (placed q x)) s.is ∙ parted_commas q (name_bytes l.name) (others l s.word) lacking

  kept : (n q : ℕ) → first_broken (head_rules n (parts_of q (name_bytes l.name) (others l s.word)) ++ time_rules n (parts_of q (name_bytes l.name) (others l s.word))) ≡ None
  kept n q =
      let mk : number_of (decimal l.m) ≤ number_of (decimal l.k) = omega (arith, m.value, k.value, l.window) in
      let k64 : number_of (decimal l.k) ≤ 64 = omega (arith, k.value, l.window) in
      let ud : number_of (decimal l.times.bare) < number_of (decimal l.times.detect) = omega (arith, u.value, d.value, l.ordered) in
      let dr : number_of (decimal l.times.detect) < number_of (decimal l.times.correct) = omega (arith, d.value, r.value, l.ordered) in
      let rp : number_of (decimal l.times.correct) ≤ number_of (decimal l.period) = omega (arith, r.value, p.value, l.ordered) in
      let pm : number_of (decimal l.period) ≤ 1000000 = omega (arith, p.value, l.ordered) in
      none_broken (head_rules n (parts_of q (name_bytes l.name) (others l s.word)) ++ time_rules n (parts_of q (name_bytes l.name) (others l s.word))) (
        s.name_is,
        (
          technique.0,
          (
            m.form,
            (
              k.form,
              (
                le-leb _ _ mk,
                (
                  le-leb _ _ k64,
                  (
                    stood.form,
                    (
                      stood.fitting,
                      (u.form, (d.form, (lt-ltb _ _ ud, (r.form, (lt-ltb _ _ dr, (p.form, (le-leb _ _ rp, (le-leb _ _ pm, tt)))))))),
                    ),
                  ),
                ),
              ),
            ),
          ),
        ),
      )

  row : (q : ℕ) → row_of l ≡ row_said (parts_of q (name_bytes l.name) (others l s.word))
  row q = (λ i. record {
    name = name_bytes l.name;
    technique = technique.1 i;
    m = sym m.value i;
    k = sym k.value i;
    word = stood.word i;
    bare = sym u.value i;
    detect = sym d.value i;
    correct = sym r.value i;
    period = sym p.value i;
  })

  pub line_read : (q : ℕ) (up : List Line) → length up < 32 → (Used (name_bytes l.name) up → ⊥) → last_period up ≤ l.period → with_line (map row_of up) (placed q bs) ≡ Ok (map row_of (up ++ (l ∷ [])))
  line_read q up few new rising =
      pushed up (placed q bs) (parts_of q (name_bytes l.name) (others l s.word)) (fields q) (length up + 1) refl (omega arith) refl (kept (length up + 1) q) l (row q) new rising

-- ---- lines that are written out

lines_read : (ls : List Line) (text : List ℕ) (q : ℕ) (up : List Line) → Writes text (map row_of ls) → Fit up ls → with_lines (map row_of up) (ended 10 q text) ≡ Ok (map row_of (up ++ ls))
lines_read [] text q up w f =
    ap (λ x. with_lines (map row_of up) (ended 10 q x)) w ∙ ap (λ (xs : List Line). Ok (map row_of xs)) (sym (append-nil up))
lines_read (l ∷ ls) text q up w f =
    let bs = w.0 in
    let rest = w.1 in
    ap (λ x. with_lines (map row_of up) (ended 10 q x)) w.2
    ∙ ap (λ x. with_lines (map row_of up) x) (joined 10 q bs rest (no_feed l bs w.3)).1
    ∙ ap (λ o. and_then o (λ rows. with_lines rows (ended 10 (q + length bs + 1) rest))) (line_read l bs w.3 q up f.0 f.1 f.2)
    ∙ lines_read ls rest (q + length bs + 1) (up ++ (l ∷ [])) w.4 f.3
    ∙ ap (λ (xs : List Line). Ok (map row_of xs)) (append_assoc up (l ∷ []) ls)

feed_last : (rs : List Row) (text : List ℕ) → Writes text rs → last_byte (10 ∷ text) ≡ 10
feed_last [] text w = ap (λ x. last_byte (10 ∷ x)) w
feed_last (r ∷ rs) text w =
    last_more 10 text (ap last_byte w.2 ∙ last_append w.0 10 w.1 ∙ feed_last rs w.1 w.4)

ends_fed : (rs : List Row) (text : List ℕ) → Writes text rs → 1 ≤ length rs → last_byte text ≡ 10
ends_fed [] text w h = absurd (omega arith)
ends_fed (r ∷ rs) text w h = ap last_byte w.2 ∙ last_append w.0 10 w.1 ∙ feed_last rs w.1 w.4

pub whole : (text : List ℕ) (t : Table) → IsTextOf text t → reading text ≡ Ok (rows_of t)
whole text t h =
    reading_is text h.small (eq-eqb (last_byte text) 10 (ends_fed (rows_of t) text h.written (omega (arith, h.some, length-map (lines_of t) row_of))))
    ∙ lines_read (lines_of t) text 0 [] h.written (table_fits t)
