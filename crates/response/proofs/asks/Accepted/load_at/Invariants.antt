use Rattle.std.proofs.Common.{◌≡◌, ◌+◌, ◌*◌, ◌≤◌, take}
use Rattle.policies.specs.Promises.{most_per_job}
use Rattle.response.specs.Figures.{load_above}
use Rattle.response.specs.Told.{AllTold}
use Rattle.response.proofs.asks.Accepted.load_at.Given as goal

abbrev pub invariant-loop-i : goal.invariant-loop-i
invariant-loop-i g l = record {
  sum : l.load ≡ l.own + load_above (g.P.Policy.demand l.self.policy.now) (take l.i l.self.lines.now) l.t;
  small : l.load ≤ most_per_job + 4000000000000 * l.i;
  told : AllTold (g.P.Policy.demand l.self.policy.now) l.self.lines.now l.known;
}
