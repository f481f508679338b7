-- A table written out as a text.
use Rattle.std.specs.Prelude.{◌≡◌, ℕ, ◌+◌, ◌<◌, ◌≤◌, true, ◌⊎◌, List, [], ◌∷◌, ◌++◌, length, Ok, Err, codes, decimal, Result, slice_index}
use Rattle.words.specs.Bits.{bit}
use Rattle.words.specs.Patterns.{pattern_word}
use Rattle.words.specs.declared.patterns.Pattern.TheVariants as pattern
use Rattle.tasks.specs.Bytes.{is_name}
use Rattle.tasks.specs.Rows.{Row, rows_of}
use Rattle.tasks.specs.Spelled.{technique_word}
use Rattle.tasks.specs.Tables.{lines_of}
use Rattle.tasks.specs.declared.refusal.Refusal.{Refusal}
use Rattle.tasks.specs.declared.table.Table.{Table}

-- the bytes are k bits of the word w, bit 0 first
abbrev pub Bits : ℕ → ℕ → List ℕ → Type 0
Bits k w bs = (length bs ≡ k) × ((j : ℕ) → j < k → slice_index bs j ≡ 48 + bit w j)

-- the bytes stand for the word of a row: R, E or its bits
abbrev pub StandsFor : Row → List ℕ → Type 0
StandsFor r bs =
    ((bs ≡ codes "R") × (r.word ≡ pattern_word pattern.R r.m r.k))
    ⊎ (((bs ≡ codes "E") × (r.word ≡ pattern_word pattern.E r.m r.k))
    ⊎ Bits r.k r.word bs)

-- fields with a comma after each but the last
abbrev pub with_commas : List ℕ → List (List ℕ) → List ℕ
with_commas f [] = f
with_commas f (g ∷ gs) = f ++ (44 ∷ with_commas g gs)

-- a row written out, with bytes for its word
abbrev pub line_text : Row → List ℕ → List ℕ
line_text r word =
    with_commas r.name
    (technique_word r.technique ∷ decimal r.m ∷ decimal r.k ∷ word
    ∷ decimal r.bare ∷ decimal r.detect ∷ decimal r.correct ∷ decimal r.period ∷ [])

-- the bytes are a row written out, whose name has the form of a name
pub record LineOf (bytes : List ℕ) (r : Row) : Type 0 where
  pub word : List ℕ
  pub name_is : is_name r.name ≡ true
  pub word_is : StandsFor r word
  pub is : bytes ≡ line_text r word

-- the text is the rows written out in order, each ended by a line feed
abbrev pub Writes : List ℕ → List Row → Type 0
Writes text [] = text ≡ []
Writes text (r ∷ rs) = (line : List ℕ) × (rest : List ℕ) × (text ≡ line ++ (10 ∷ rest)) × LineOf line r × Writes rest rs

-- the text is the lines of the table written out, at least one, in at most 8,192 bytes; that the lines keep
-- the rules of a line and a table, 32 lines at most, is part of what a table is
pub record IsTextOf (text : List ℕ) (t : Table) : Type 0 where
  pub small : length text ≤ 8192
  pub some : 1 ≤ length (lines_of t)
  pub written : Writes text (rows_of t)

-- a text is accepted exactly if it is some table written out, and then the table read is that one
abbrev pub Accepts : List ℕ → Result Unit Refusal → Table → Type 0
Accepts text (Ok _) u = IsTextOf text u × ((t : Table) → IsTextOf text t → rows_of t ≡ rows_of u)
Accepts text (Err e) u = (t : Table) → IsTextOf text t → ⊥
