-- Texts parted at a line that is just a full stop.
use Rattle.std.proofs.Common.{◌≡◌, ℕ, zero, suc, ◌+◌, ◌-◌, ◌<◌, ◌≤◌, ◌==◌, List, [], ◌∷◌, ◌++◌, length, take, drop, cond, Bool, true, false, codes, sym, refl, ap, ◌∙◌, subst, append_assoc, add-one, ⊎_elim, arith, length-append, length-take, length-drop}
use Rattle.std.proofs.lemmas.List.{take_at, drop_at, drop-drop, drop-append-le, take-append-drop}
use Rattle.std.proofs.lemmas.Bool.{cases_lt, eq-eqb}
use Rattle.text.specs.Cuts.{Placed, placed, closed, lead, last_byte}
use Rattle.text.proofs.Cutting.{unmarked, closed_none, closed_marked}
use Rattle.text.proofs.Joining.{last_append}
use Rattle.transcript.proofs.Saying.{whole_line}
use Rattle.transcript.specs.Scripts.{WholeLines, Parts, FirstParts}

-- ---- the first line feed

within_step : (t : Bool) (n k : ℕ) → n < k → cond t 0 (suc n) < suc k
within_step true n k h = omega arith
within_step false n k h = omega arith

lead_within : (xs ys : List ℕ) → 1 ≤ length xs → last_byte xs ≡ 10 → lead 10 (xs ++ ys) < length xs
lead_within [] ys some e = absurd (omega arith)
lead_within (b ∷ []) ys some e = rw (eq-eqb b 10 e) (omega arith)
lead_within (b ∷ d ∷ xs) ys some e = within_step (b == 10) (lead 10 (d ∷ xs ++ ys)) (length (d ∷ xs)) (lead_within (d ∷ xs) ys (omega arith) e)

last_drop : (i : ℕ) (xs : List ℕ) → i < length xs → last_byte (drop i xs) ≡ last_byte xs
last_drop zero xs h = refl
last_drop (suc i) [] h = absurd (omega arith)
last_drop (suc i) (b ∷ []) h = absurd (omega arith)
last_drop (suc i) (b ∷ d ∷ xs) h = last_drop i (d ∷ xs) (omega arith)

whole_last : (xs : List ℕ) → last_byte xs ≡ 10 → WholeLines xs
whole_last [] e = tt
whole_last (b ∷ xs) e = e

last_whole : (xs : List ℕ) → 1 ≤ length xs → WholeLines xs → last_byte xs ≡ 10
last_whole [] some w = absurd (omega arith)
last_whole (b ∷ xs) some w = w

-- ---- a text that has parts, from a place on

module _ (text table script : List ℕ) (p : Parts text table script) (i : ℕ) where
  -- at the end of the table text stands the line that is just a full stop
  here : length table ≡ i → drop i text ≡ codes ".\n" ++ script
  here same = ap (drop i) p.joined ∙ drop_at table (codes ".\n" ++ script) i same

  -- before it, a line of the table text
  before : i < length table → lead 10 (drop i text) < length table - i
  before h =
      let front = drop i table in
      let size : length front ≡ length table - i = length-drop i table in
      let e : drop i text ≡ front ++ (codes ".\n" ++ script) = ap (drop i) p.joined ∙ drop-append-le i table (codes ".\n" ++ script) (omega arith) in
      let last : last_byte front ≡ 10 = last_drop i table h ∙ last_whole table (omega arith) p.lines in
      omega (arith, ap (lead 10) e, lead_within front (codes ".\n" ++ script) (omega arith) last)

  some_line : i ≤ length table → lead 10 (drop i text) < length (drop i text)
  some_line h =
      ⊎_elim
      (λ (less : i < length table). omega (arith, before less, length-drop i text, ap length p.joined, length-append table (codes ".\n" ++ script)))
      (λ (same : length table ≤ i). let e = here (omega arith) in omega (arith, ap (lead 10) e, ap length e))
      (cases_lt i (length table))

-- the lines behind a place are left: whole lines stand before it, and none of them is just a full stop
pub record Left (text : List ℕ) (lines : List Placed) : Type 0 where
  pub place : ℕ
  pub within : place ≤ length text
  pub are : lines ≡ closed 10 place (drop place text)
  pub whole : WholeLines (take place text)
  pub later : (table script : List ℕ) → Parts text table script → place ≤ length table

-- ---- a line

module _ (text : List ℕ) (q : Placed) (ls : List Placed) (l : Left text (q ∷ ls)) where
  abbrev bs : List ℕ
  bs = drop l.place text

  abbrev n : ℕ
  n = lead 10 bs

  some : n < length bs
  some =
      ⊎_elim (λ (s : n < length bs). s)
      (λ (s : length bs ≤ n). absurd (omega (arith, ap length (l.are ∙ closed_none 10 l.place bs (unmarked 10 bs s)))))
      (cases_lt n (length bs))

  are : q ∷ ls ≡ placed l.place (take n bs) ∷ closed 10 (l.place + (n + 1)) (drop (n + 1) bs)
  are = l.are ∙ closed_marked 10 l.place n (l.place + (n + 1)) bs (take n bs) (drop (n + 1) bs) refl some refl refl refl

  line_is : q ≡ placed l.place (take n bs)
  line_is = let e = are in cc

  rest_is : ls ≡ closed 10 (l.place + (n + 1)) (drop (l.place + (n + 1)) text)
  rest_is =
      let e : ls ≡ closed 10 (l.place + (n + 1)) (drop (n + 1) bs) = (let a = are in cc) in
      e ∙ ap (closed 10 (l.place + (n + 1))) (drop-drop (n + 1) l.place text)

  text_is : text ≡ take l.place text ++ (take n bs ++ (10 ∷ drop (n + 1) bs))
  text_is =
      sym (take-append-drop l.place text)
      ∙ ap (λ xs. take l.place text ++ xs) (whole_line 10 bs some ∙ ap (λ k. take n bs ++ (10 ∷ drop k bs)) (sym (add-one n)))

  front_size : length (take l.place text) ≡ l.place
  front_size = omega (arith, length-take l.place text, l.within)

  module _ (stop : q.bytes ≡ codes ".") where
    stop_is : take n bs ≡ codes "."
    stop_is = sym (ap (λ (s : Placed). s.bytes) line_is) ∙ stop

    one : n ≡ 1
    one = omega (arith, ap length stop_is, length-take n bs, some)

    place_is : q.place ≡ l.place
    place_is = ap (λ (s : Placed). s.place) line_is

    rest : drop (n + 1) bs ≡ drop (q.place + 2) text
    rest = drop-drop (n + 1) l.place text ∙ ap (λ k. drop k text) (omega (arith, one, place_is))

    joined_is : text ≡ take q.place text ++ (codes ".\n" ++ drop (q.place + 2) text)
    joined_is = text_is ∙ (λ i. take (sym place_is i) text ++ (stop_is i ++ (10 ∷ rest i)))

    pub stop_within : q.place + 2 ≤ length text
    stop_within = omega (arith, one, place_is, some, length-drop l.place text)

    pub found : FirstParts text (take q.place text) (drop (q.place + 2) text)
    found = record {
      parts = record { joined = joined_is; lines = subst (λ k. WholeLines (take k text)) (sym place_is) l.whole };
      first = λ other more p. omega (arith, place_is, length-take q.place text, stop_within, l.later other more p);
    }

  module _ (on : q.bytes ≡ codes "." → ⊥) where
    passed : (table script : List ℕ) (p : Parts text table script) → l.place + (n + 1) ≤ length table
    passed table script p =
        let h = l.later table script p in
        ⊎_elim
        (λ (less : l.place < length table). omega (arith, before text table script p l.place less))
        (λ (same : length table ≤ l.place).
        let e = here text table script p l.place (omega arith) in
        absurd (on (ap (λ (s : Placed). s.bytes) line_is ∙ (λ i. take (lead 10 (e i)) (e i)))))
        (cases_lt l.place (length table))

    ended_is : take (l.place + (n + 1)) text ≡ (take l.place text ++ take n bs) ++ (10 ∷ [])
    ended_is =
        let front = (take l.place text ++ take n bs) ++ (10 ∷ []) in
        let size : length front ≡ l.place + (n + 1) = omega (arith, length-append (take l.place text ++ take n bs) (10 ∷ []), length-append (take l.place text) (take n bs), front_size, length-take n bs, some) in
        let e : text ≡ front ++ drop (n + 1) bs = text_is ∙ sym (append_assoc (take l.place text) (take n bs) (10 ∷ drop (n + 1) bs)) ∙ sym (append_assoc (take l.place text ++ take n bs) (10 ∷ []) (drop (n + 1) bs)) in
        ap (take (l.place + (n + 1))) e ∙ take_at front (drop (n + 1) bs) (l.place + (n + 1)) size

    pub others_left : Left text ls
    others_left = record {
      place = l.place + (n + 1);
      within = omega (arith, some, length-drop l.place text);
      are = rest_is;
      whole = whole_last (take (l.place + (n + 1)) text) (ap last_byte ended_is ∙ last_append (take l.place text ++ take n bs) 10 []);
      later = passed;
    }

-- a text of whose lines none is left has no parts
pub none_left : (text : List ℕ) → Left text [] → (table script : List ℕ) → Parts text table script → ⊥
none_left text l table script p =
    let bs = drop l.place text in
    let some = some_line text table script p l.place (l.later table script p) in
    omega (arith, ap length (l.are ∙ closed_marked 10 l.place (lead 10 bs) (l.place + (lead 10 bs + 1)) bs (take (lead 10 bs) bs) (drop (lead 10 bs + 1) bs) refl some refl refl refl))
