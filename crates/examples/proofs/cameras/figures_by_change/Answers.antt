use Rattle.std.proofs.Common.{[], ◌∷◌}
use Rattle.examples.proofs.Pairs.{figured_by_r, figured_by_dre}
use Rattle.examples.proofs.cameras.figures_by_change.Goals as goal

pub returns : goal.returns
returns c = λ i. figured_by_r c.figures_of.result c.figures_of.ensures i ∷ figured_by_dre c.figures_of-2.result c.figures_of-2.ensures i ∷ []
