use Rattle.std.proofs.Common.{refl}
use Rattle.words.specs.Sums.{sum_below}
use Rattle.tasks.proofs.tables.filler.Goals as goal

pub invariant_of-result-clause-reliable : goal.invariant_of-result-clause-reliable
unfolding sum_below
invariant_of-result-clause-reliable c = refl
