use Rattle.std.proofs.Common.{◌∙◌}
use Rattle.examples.proofs.Words.{turn_is, told_turned}
use Rattle.examples.proofs.patterns.turned.Goals as goal

pub returns : goal.returns
returns c = λ i. ((c.turn.ensures.is ∙ turn_is) i, told_turned c.rearranged.result c.rearranged.ensures i)
