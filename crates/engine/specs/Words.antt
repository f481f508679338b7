-- Tick words: what each says is its number.
use Rattle.std.specs.Prelude.{◌≡◌, ℕ, ◌<◌, Result, MatchResult}
use Rattle.tasks.specs.declared.refusal.Refusal.{Refusal}
use Rattle.tasks.specs.declared.refusal.Refusal.TheVariants.{TickWord}
use Rattle.engine.specs.declared.word.Word.{Word}
use Rattle.engine.specs.declared.word.Word.TheVariants.{GoesOn, Ended, Fault}

-- the number that says it: the version goes on, has ended, has ended with a detected fault
abbrev pub said_by : Word → ℕ
said_by GoesOn = 0
said_by Ended = 1
said_by Fault = 2

-- what the number says; 15 where it is above 2
abbrev pub Said : ℕ → Result Word Refusal → Type 0
Said n r = MatchResult r (λ w. said_by w ≡ n) (λ e. (e ≡ TickWord) × (2 < n))
