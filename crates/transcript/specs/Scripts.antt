-- A table text and a script in one text, parted by a line that is just a full stop.
use Rattle.std.specs.Prelude.{◌≡◌, ℕ, ◌≤◌, List, [], ◌∷◌, ◌++◌, length, codes}
use Rattle.text.specs.Cuts.{last_byte}

-- no bytes, or the last is a line feed
abbrev pub WholeLines : List ℕ → Type 0
WholeLines [] = Unit {0}
WholeLines (b ∷ bs) = last_byte (b ∷ bs) ≡ 10

-- a line that is just `.` stands between the table text and the script
pub record Parts (text table script : List ℕ) : Type 0 where
  pub joined : text ≡ table ++ (codes ".\n" ++ script)
  pub lines : WholeLines table

-- and it is the first such line
pub record FirstParts (text table script : List ℕ) : Type 0 where
  pub parts : Parts text table script
  pub first : (other rest : List ℕ) → Parts text other rest → length table ≤ length other
