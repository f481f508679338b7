-- What lines and tables say, as plain values.
use Rattle.std.specs.Prelude.{ℕ, List, map}
use Rattle.tasks.specs.declared.technique.Technique.{Technique}
use Rattle.tasks.specs.declared.job.Version.TheVariants.{Bare, Detect, Correct}
use Rattle.tasks.specs.declared.line.Line.{Line}
use Rattle.tasks.specs.declared.table.Table.{Table}
use Rattle.tasks.specs.Lines.{time}
use Rattle.tasks.specs.Named.{name_bytes}
use Rattle.tasks.specs.Tables.{lines_of}

-- what a line says
pub record Row : Type 0 where
  pub name : List ℕ
  pub technique : Technique
  pub m : ℕ
  pub k : ℕ
  pub word : ℕ
  pub bare : ℕ
  pub detect : ℕ
  pub correct : ℕ
  pub period : ℕ

abbrev pub row_of : Line → Row
row_of l = record {
  name = name_bytes l.name;
  technique = l.technique;
  m = l.m;
  k = l.k;
  word = l.word;
  bare = time l Bare;
  detect = time l Detect;
  correct = time l Correct;
  period = l.period;
}

-- what the lines of a table say, in order
abbrev pub rows_of : Table → List Row
rows_of t = map row_of (lines_of t)
