-- What a line says, and the rules that its values keep.
use Rattle.std.specs.Prelude.{◌≡◌, ℕ, ◌^◌, ◌<◌, ◌≤◌, List, map}
use Rattle.words.specs.Bits.{ones}
use Rattle.words.specs.Patterns.{Window}
use Rattle.tasks.specs.declared.name.Name.{Name}
use Rattle.tasks.specs.declared.technique.Technique.{Technique}
use Rattle.tasks.specs.declared.job.Version.{Version}
use Rattle.tasks.specs.declared.job.Version.TheVariants.{Bare, Detect, Correct}
use Rattle.tasks.specs.declared.line.Times.{Times}
use Rattle.tasks.specs.declared.line.Line.{Line}
use Rattle.tasks.specs.Named.{name_bytes}

-- the most ticks that a version takes: u, d and r of the task's line
abbrev pub time : Line → Version → ℕ
time l Bare = l.times.bare
time l Detect = l.times.detect
time l Correct = l.times.correct

-- the rules of a line
pub record Lawful (m k word : ℕ) (times : Times) (period : ℕ) : Type 0 where
  -- 1 ≤ m ≤ k ≤ 64
  pub window : Window m k
  -- the word has k bits, of which just m are 1
  pub narrow : word < 2 ^ k
  pub reliable : ones k word ≡ m
  -- 1 ≤ u < d < r ≤ T ≤ 1,000,000
  pub ordered : (1 ≤ times.bare) × (times.bare < times.detect) × (times.detect < times.correct) × (times.correct ≤ period) × (period ≤ 1000000)

-- the line says these values
pub record Says (l : Line) (n : Name) (t : Technique) (m k w : ℕ) (times : Times) (p : ℕ) : Type 0 where
  pub name : l.name ≡ n
  pub technique : l.technique ≡ t
  pub right : l.m ≡ m
  pub of : l.k ≡ k
  pub word : l.word ≡ w
  pub versions : l.times ≡ times
  pub period : l.period ≡ p

-- the names and the periods of lines, in order
abbrev pub names : List Line → List (List ℕ)
names ls = map (λ (l : Line). name_bytes l.name) ls

abbrev pub periods : List Line → List ℕ
periods ls = map (λ (l : Line). l.period) ls
