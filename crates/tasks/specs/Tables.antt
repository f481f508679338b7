-- What a table holds, and what adding a line does.
use Rattle.std.specs.Prelude.{◌≡◌, ℕ, ◌-◌, ◌<◌, ◌≤◌, List, [], ◌∷◌, ◌++◌, length, take, Ok, Err, Result, slice_index, slice_index_or}
use Rattle.tasks.specs.declared.line.Line.{Line}
use Rattle.tasks.specs.declared.table.Table.{Table}
use Rattle.tasks.specs.declared.tables.Unfit.{Unfit}
use Rattle.tasks.specs.declared.tables.Unfit.TheVariants.{Full, NameUsed, PeriodFalls}
use Rattle.tasks.specs.Named.{name_bytes}
use Rattle.tasks.specs.Lines.{names, periods}

-- the lines of a table, in order
abbrev pub lines_of : Table → List Line
lines_of t = take t.len t.lines

-- n is the number of a line
abbrev pub IsLine : List Line → ℕ → Type 0
IsLine ls n = (1 ≤ n) × (n ≤ length ls)

-- l is the line with the number n
abbrev pub Numbered : List Line → ℕ → Line → Type 0
Numbered ls n l = IsLine ls n × (l ≡ slice_index_or ls (n - 1) l)

-- some line has the name
abbrev pub Used : List ℕ → List Line → Type 0
Used x ls = (i : ℕ) × (i < length ls) × (slice_index_or (names ls) i [] ≡ x)

-- the period of the last line, and 0 where there is none
abbrev pub last_period : List Line → ℕ
last_period ls = slice_index (periods ls) (length ls - 1)

-- what adding a line to the table t answers, and the table after
abbrev pub Pushed : Table → Line → Result Unit Unfit → Table → Type 0
Pushed t l (Ok _) u = (length (lines_of t) < 32) × (Used (name_bytes l.name) (lines_of t) → ⊥) × (last_period (lines_of t) ≤ l.period) × (lines_of u ≡ lines_of t ++ (l ∷ []))
Pushed t l (Err Full) u = (u ≡ t) × (length (lines_of t) ≡ 32)
Pushed t l (Err NameUsed) u = (u ≡ t) × (length (lines_of t) < 32) × Used (name_bytes l.name) (lines_of t)
Pushed t l (Err PeriodFalls) u = (u ≡ t) × (length (lines_of t) < 32) × (Used (name_bytes l.name) (lines_of t) → ⊥) × (l.period < last_period (lines_of t))
