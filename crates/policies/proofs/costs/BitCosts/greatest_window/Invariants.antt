use Rattle.std.proofs.Common.{◌≡◌}
use Rattle.words.specs.Sums.{row}
use Rattle.words.proofs.Rows.{best_start}
use Rattle.policies.specs.Patterns.{cost_at}
use Rattle.policies.proofs.costs.BitCosts.greatest_window.Given as goal

abbrev pub invariant-loop-start : goal.invariant-loop-start
invariant-loop-start l = (l.sum ≡ row (cost_at l.self.zero l.self.one l.word) l.k l.start l.n) × (l.greatest ≡ best_start (cost_at l.self.zero l.self.one l.word) l.k l.n l.start)
