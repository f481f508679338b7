-- The bytes that answer a table text.
use Rattle.std.specs.Prelude.{◌≡◌, ℕ, ◌+◌, ◌-◌, Bool, true, false, List, [], ◌∷◌, ◌++◌, Ok, Err, codes, decimal, slice_index}
use Rattle.tasks.specs.Lines.{names}
use Rattle.tasks.specs.Refused.{told_number, told_line, told_place}
use Rattle.tasks.specs.Rows.{rows_of}
use Rattle.tasks.specs.Tables.{lines_of}
use Rattle.tasks.specs.declared.line.Line.{Line}
use Rattle.tasks.specs.declared.refusal.Refusal.{Refusal}
use Rattle.tasks.specs.declared.table.Table.{Table}
use Rattle.policies.specs.Techniques.{technique_takes, technique_demand}
use Rattle.response.specs.Figures.{Answered}
use Rattle.text.specs.Reading.{reading}

-- number, name and figure of a line, parted by commas
abbrev pub figure_line : ℕ → List ℕ → ℕ → List ℕ
figure_line n name figure = decimal n ++ (44 ∷ (name ++ (44 ∷ (decimal figure ++ (10 ∷ [])))))

-- those of the lines with these names, from number n on; the figure of line n stands in place n - 1
abbrev pub figure_lines : ℕ → List (List ℕ) → List ℕ → List ℕ
figure_lines n [] places = []
figure_lines n (name ∷ more) places = figure_line n name (slice_index places (n - 1)) ++ figure_lines (n + 1) more places

abbrev pub verdict_line : Bool → List ℕ
verdict_line true = codes "admitted\n"
verdict_line false = codes "rejected\n"

-- `refused`, number, line and place, parted by commas
abbrev pub refusal_line : Refusal → List ℕ
refusal_line e = codes "refused," ++ (decimal (told_number e) ++ (44 ∷ (decimal (told_line e) ++ (44 ∷ (decimal (told_place e) ++ (10 ∷ []))))))

-- the by-line policy: on each line the technique that the line names
abbrev pub takes : Line → Bool
takes l = technique_takes l.technique l

abbrev pub demand : Line → ℕ → ℕ
demand l n = technique_demand l.technique l n

-- the bytes answer the text: the text is refused; or it says a table, whose figures are refused, or worked out
pub data Answers (text : List ℕ) : List ℕ → Type 0 where
  unread : {e : Refusal} → reading text ≡ Err e → Answers text (refusal_line e)
  refused : (t : Table) {places : List ℕ} {e : Refusal} → reading text ≡ Ok (rows_of t) → Answered takes demand (lines_of t) places (Err e) → Answers text (refusal_line e)
  worked_out : (t : Table) {places : List ℕ} {admitted : Bool} → reading text ≡ Ok (rows_of t) → Answered takes demand (lines_of t) places (Ok admitted) → Answers text (figure_lines 1 (names (lines_of t)) places ++ verdict_line admitted)

-- the bytes are the answer to the text: they answer it, and no others do
pub record TheAnswer (text bytes : List ℕ) : Type 0 where
  pub answers : Answers text bytes
  pub only : (other : List ℕ) → Answers text other → other ≡ bytes
