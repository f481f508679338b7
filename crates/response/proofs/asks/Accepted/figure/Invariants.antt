use Rattle.std.proofs.Common.{ℕ, ◌+◌, ◌-◌, ◌<◌, ◌≤◌, take}
use Rattle.response.specs.Figures.{limit, Passes}
use Rattle.response.specs.Told.{AllTold}
use Rattle.response.proofs.asks.Accepted.figure.Given as goal

abbrev pub invariant-loop-t : goal.invariant-loop-t
invariant-loop-t g l = record {
  started : 1 ≤ l.t;
  failed : (s : ℕ) → 1 ≤ s → s < l.t → s ≤ limit l.line → Passes (g.P.Policy.demand l.self.policy.now) (take l.place l.self.lines.now) l.line s → ⊥;
  told : AllTold (g.P.Policy.demand l.self.policy.now) l.self.lines.now l.known;
}

abbrev pub decreases-loop-t : goal.decreases-loop-t
decreases-loop-t g l = limit l.line + 1 - l.t
