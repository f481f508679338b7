-- Lines that differ only by a turn of the word.
use Rattle.std.specs.Prelude.{◌≡◌, ℕ, Bool, List, Ok, Err, Decides, Result}
use Rattle.words.specs.Turns.{Turned}
use Rattle.tasks.specs.declared.job.Version.{Version}
use Rattle.tasks.specs.declared.line.Line.{Line}
use Rattle.tasks.specs.declared.refusal.Refusal.{Refusal}
use Rattle.tasks.specs.declared.refusal.Refusal.TheVariants.{NoSuchTask}
use Rattle.tasks.specs.Lines.{time}
use Rattle.tasks.specs.Tables.{IsLine, Numbered}

-- all but the names agree, and the second word is the first turned left by some number of places
pub record Twins (a b : Line) : Type 0 where
  pub technique : a.technique ≡ b.technique
  pub right : a.m ≡ b.m
  pub of : a.k ≡ b.k
  pub times : (v : Version) → time a v ≡ time b v
  pub period : a.period ≡ b.period
  pub word : (s : ℕ) × Turned a.word a.k s b.word

-- what the question whether the lines a and b are twins answers
abbrev pub Asked : List Line → ℕ → ℕ → Result Bool Refusal → Type 0
Asked ls a b (Ok t) = IsLine ls a × IsLine ls b × ((x y : Line) → Numbered ls a x → Numbered ls b y → Decides t (Twins x y))
Asked ls a b (Err e) = (e ≡ NoSuchTask) × (IsLine ls a × IsLine ls b → ⊥)
