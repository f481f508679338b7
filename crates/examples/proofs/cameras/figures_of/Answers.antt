use Rattle.std.proofs.Common.{◌≡◌, ℕ, List, Ok, Err}
use Rattle.tasks.specs.Rows.{rows_of}
use Rattle.text.specs.Reading.{Reads}
use Rattle.examples.proofs.cameras.figures_of.Goals as goal

pub returns-then-is_ok : goal.returns-then-is_ok
returns-then-is_ok c rows said =
    let t = c.read.new.table in
    let text : List ℕ = c.args.text.now in
    let same = elim c.read.result as (λ r. Reads text r t → rows_of t ≡ rows) [
      | Ok u ↦ λ says. cc said
      | Err e ↦ λ says. cc (says.0, said)
    ] in
    (t, c.figures.result, same c.read.ensures.says, c.figures.ensures)
