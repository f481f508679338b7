-- The lines of a script, and the calls that they say.
use Rattle.std.specs.Prelude.{◌≡◌, ℕ, ◌≤◌, true, List, ◌++◌, length, codes}
use Rattle.tasks.specs.Bytes.{every, digit}
use Rattle.tasks.specs.declared.table.Table.{Table}
use Rattle.text.specs.Values.{number_of}
use Rattle.service.specs.declared.log.Call.{Call}
use Rattle.service.specs.declared.log.Call.TheVariants.{Open, Release, Tick, Counts, Figure}

-- 1 to 9 digits
abbrev pub Numeral : List ℕ → Type 0
Numeral ds = (1 ≤ length ds) × (length ds ≤ 9) × (every digit ds ≡ true)

-- the line is the word and behind it 1 to 9 digits, which write n
abbrev pub Follows : List ℕ → List ℕ → ℕ → Type 0
Follows line word n = (ds : List ℕ) × (line ≡ word ++ ds) × Numeral ds × (n ≡ number_of ds)

-- the bytes of a line, without its line feed, say the call; t is the table that `open` opens
pub data Says (t : Table) : List ℕ → Call → Type 0 where
  an_opening : Says t (codes "open") (Open t)
  a_release : {ds : List ℕ} → Numeral ds → Says t (codes "release " ++ ds) (Release (number_of ds))
  a_tick : {ds : List ℕ} → Numeral ds → Says t (codes "tick " ++ ds) (Tick (number_of ds))
  the_counts : {ds : List ℕ} → Numeral ds → Says t (codes "counts " ++ ds) (Counts (number_of ds))
  the_figure : {ds : List ℕ} → Numeral ds → Says t (codes "figure " ++ ds) (Figure (number_of ds))
