-- The rules of a table text, in the order in which they are tested, and the first that is broken.
use Rattle.std.specs.Prelude.{ℕ, ◌+◌, ◌-◌, Bool, false, cond, not, ◌||◌, List, [], ◌∷◌, ◌++◌, map, length, Some, None, Option, ◌==◌, nat_le, nat_lt, slice_index, slice_index_or}
use Rattle.std.specs.Str.{bytes_eq}
use Rattle.tasks.specs.Rows.{Row}
use Rattle.tasks.specs.declared.refusal.Refusal.{Refusal}
use Rattle.tasks.specs.declared.refusal.Refusal.TheVariants as refusal
use Rattle.text.specs.Cuts.{Placed, placed, last_byte}
use Rattle.text.specs.Forms.{is_name, is_technique, is_number, is_pattern}
use Rattle.text.specs.Values.{number_of, fits}

-- whether a rule is kept, and the refusal where it is broken
pub record Rule : Type 0 where
  pub kept : Bool
  pub otherwise : Refusal

abbrev pub rule : Bool → Refusal → Rule
rule b e = record { kept = b; otherwise = e }

-- the refusal of the first rule that is broken
abbrev pub first_broken : List Rule → Option Refusal
first_broken [] = None
first_broken (r ∷ rs) = cond r.kept (first_broken rs) (Some r.otherwise)

-- the field has its form: 3 at the field of line n
abbrev pub form : ℕ → (List ℕ → Bool) → Placed → Rule
form n has_form s = rule (has_form s.bytes) (refusal.Form n s.place)

-- a value keeps a rule of a line: 4 at the field of line n; a rule that ties two fields stands at the later
abbrev pub value : ℕ → Bool → Placed → Rule
value n b s = rule b (refusal.Value n s.place)

-- the number that a field writes
abbrev pub num : Placed → ℕ
num s = number_of s.bytes

-- the field with a number, from 0
abbrev pub field : List Placed → ℕ → Placed
field fs i = slice_index_or fs i (placed 0 [])

-- the fields of a line, in order
abbrev pub the_name : List Placed → Placed
the_name fs = field fs 0

abbrev pub the_technique : List Placed → Placed
the_technique fs = field fs 1

abbrev pub the_m : List Placed → Placed
the_m fs = field fs 2

abbrev pub the_k : List Placed → Placed
the_k fs = field fs 3

abbrev pub the_pattern : List Placed → Placed
the_pattern fs = field fs 4

abbrev pub the_bare : List Placed → Placed
the_bare fs = field fs 5

abbrev pub the_detect : List Placed → Placed
the_detect fs = field fs 6

abbrev pub the_correct : List Placed → Placed
the_correct fs = field fs 7

abbrev pub the_period : List Placed → Placed
the_period fs = field fs 8

-- whether a row has the name
abbrev pub used : List ℕ → List Row → Bool
used x [] = false
used x (r ∷ rs) = bytes_eq r.name x || used x rs

-- the period of the last row, and 0 where there is none
abbrev pub period_above : List Row → ℕ
period_above rs = slice_index (map (λ (r : Row). r.period) rs) (length rs - 1)

-- of the text, before all: 1
abbrev pub text_rules : List ℕ → List Rule
text_rules text =
    rule (nat_le 1 (length text)) refusal.Text
    ∷ rule (nat_le (length text) 8192) refusal.Text
    ∷ rule (last_byte text == 10) refusal.Text
    ∷ []

-- of the line n with the fields fs: 7, then 2
abbrev pub count_rules : ℕ → Placed → List Placed → List Rule
count_rules n l fs =
    rule (nat_le n 32) (refusal.TooManyLines l.place)
    ∷ rule (length fs == 9) (refusal.FieldCount n l.place)
    ∷ []

-- then the fields from the left, in each 3 before 4: name, technique, 1 ≤ m ≤ k ≤ 64, pattern
abbrev pub head_rules : ℕ → List Placed → List Rule
head_rules n fs =
    form n is_name (the_name fs)
    ∷ form n is_technique (the_technique fs)
    ∷ form n is_number (the_m fs)
    ∷ form n is_number (the_k fs)
    ∷ value n (nat_le (num (the_m fs)) (num (the_k fs))) (the_k fs)
    ∷ value n (nat_le (num (the_k fs)) 64) (the_k fs)
    ∷ form n is_pattern (the_pattern fs)
    ∷ value n (fits (num (the_m fs)) (num (the_k fs)) (the_pattern fs).bytes) (the_pattern fs)
    ∷ []

-- the times and the period, 1 ≤ u < d < r ≤ T ≤ 1,000,000; that m and u are at least 1 is part of their form
abbrev pub time_rules : ℕ → List Placed → List Rule
time_rules n fs =
    form n is_number (the_bare fs)
    ∷ form n is_number (the_detect fs)
    ∷ value n (nat_lt (num (the_bare fs)) (num (the_detect fs))) (the_detect fs)
    ∷ form n is_number (the_correct fs)
    ∷ value n (nat_lt (num (the_detect fs)) (num (the_correct fs))) (the_correct fs)
    ∷ form n is_number (the_period fs)
    ∷ value n (nat_le (num (the_correct fs)) (num (the_period fs))) (the_period fs)
    ∷ value n (nat_le (num (the_period fs)) 1000000) (the_period fs)
    ∷ []

-- after the last field 6, then 5, against the rows above
abbrev pub table_rules : ℕ → List Row → List Placed → List Rule
table_rules n above fs =
    rule (not (used (the_name fs).bytes above)) (refusal.NameUsed n (the_name fs).place)
    ∷ rule (nat_le (period_above above) (num (the_period fs))) (refusal.PeriodFalls n (the_period fs).place)
    ∷ []

-- all the rules of a line below the rows above it, in order
abbrev pub line_rules : List Row → Placed → List Placed → List Rule
line_rules above l fs =
    count_rules (length above + 1) l fs
    ++ (head_rules (length above + 1) fs
    ++ (time_rules (length above + 1) fs
    ++ table_rules (length above + 1) above fs))
