use Rattle.std.proofs.Common.{◌≡◌, Ok, Err}
use Rattle.tasks.specs.Rows.{rows_of}
use Rattle.text.specs.Reading.{Reads, reading}
use Rattle.examples.specs.Runs.{run_text}
use Rattle.examples.proofs.Runs.{run_said}
use Rattle.examples.proofs.run.table.Goals as goal

pub returns : goal.returns
returns c =
    let t = c.read.new.table in
    elim c.read.result as (λ r. Reads run_text r t → reading run_text ≡ Ok (rows_of t)) [
      | Ok u ↦ λ says. says
      | Err e ↦ λ says. cc (says.0, run_said)
    ] c.read.ensures.says
