use Rattle.std.proofs.Common.{◌∙◌}
use Rattle.engine.specs.Status.{status_of}
use Rattle.examples.proofs.Runs.{run_is}
use Rattle.examples.proofs.run.engine_run.Goals as goal

pub returns : goal.returns
returns c =
    let t = c.table.result in
    (t, c.table.ensures, run_is t c.replay.new.log (status_of c.replay.result.state) c.table.ensures (c.replay.ensures.calls ∙ c.unanswered-log.ensures) c.replay.ensures.service)
