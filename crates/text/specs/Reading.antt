-- What a table text says, or why it is refused.
use Rattle.std.specs.Prelude.{◌≡◌, ℕ, List, [], ◌∷◌, ◌++◌, Some, None, Ok, Err, Option, Result}
use Rattle.tasks.specs.Rows.{Row, rows_of}
use Rattle.tasks.specs.Tables.{lines_of}
use Rattle.tasks.specs.declared.refusal.Refusal.{Refusal}
use Rattle.tasks.specs.declared.table.Table.{Table}
use Rattle.text.specs.Cuts.{Placed, lines_in, fields_in}
use Rattle.text.specs.Values.{technique_of, field_word}
use Rattle.text.specs.Rules.{first_broken, num, the_name, the_technique, the_m, the_k, the_pattern, the_bare, the_detect, the_correct, the_period, text_rules, line_rules}

-- the refusal, if there is one, and otherwise what follows
abbrev pub unless : {X : Type 0} → Option Refusal → Result X Refusal → Result X Refusal
unless None r = r
unless (Some e) r = Err e

abbrev pub and_then : {X Y : Type 0} → Result X Refusal → (X → Result Y Refusal) → Result Y Refusal
and_then (Ok x) f = f x
and_then (Err e) f = Err e

-- what nine fields say
abbrev pub row_said : List Placed → Row
row_said fs = record {
  name = (the_name fs).bytes;
  technique = technique_of (the_technique fs).bytes;
  m = num (the_m fs);
  k = num (the_k fs);
  word = field_word (num (the_m fs)) (num (the_k fs)) (the_pattern fs).bytes;
  bare = num (the_bare fs);
  detect = num (the_detect fs);
  correct = num (the_correct fs);
  period = num (the_period fs);
}

-- the rows with that of a further line
abbrev pub with_fields : List Row → Placed → List Placed → Result (List Row) Refusal
with_fields above l fs = unless (first_broken (line_rules above l fs)) (Ok (above ++ (row_said fs ∷ [])))

abbrev pub with_line : List Row → Placed → Result (List Row) Refusal
with_line above l = with_fields above l (fields_in l)

-- the rows with those of further lines, from the first
abbrev pub with_lines : List Row → List Placed → Result (List Row) Refusal
with_lines above [] = Ok above
with_lines above (l ∷ ls) = and_then (with_line above l) (λ rows. with_lines rows ls)

-- the rows that a text says, or its refusal
unfoldable pub reading : List ℕ → Result (List Row) Refusal
reading text = unless (first_broken (text_rules text)) (with_lines [] (lines_in text))

-- what reading a text answers, and the table after
abbrev pub Reads : List ℕ → Result Unit Refusal → Table → Type 0
Reads text (Ok _) t = reading text ≡ Ok (rows_of t)
Reads text (Err e) t = (reading text ≡ Err e) × (lines_of t ≡ [])
