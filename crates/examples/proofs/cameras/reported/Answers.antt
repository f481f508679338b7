use Rattle.std.proofs.lemmas.Result.{IfOk-weaker}
use Rattle.examples.proofs.Pairs.{reported_so}
use Rattle.examples.proofs.cameras.reported.Goals as goal

pub returns : goal.returns
returns c = IfOk-weaker c.report.result _ _ (λ v answer. reported_so answer.answers) c.report.ensures
