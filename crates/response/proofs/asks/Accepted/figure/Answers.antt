use Rattle.std.proofs.Common.{◌<◌, ◌≤◌, take, ⊎_elim, arith}
use Rattle.std.proofs.lemmas.Bool.{cases_lt}
use Rattle.response.specs.Figures.{smallest, none}
use Rattle.response.proofs.Loads.{taken_above, load_rises}
use Rattle.response.proofs.Places.{told_none}
use Rattle.response.proofs.asks.Accepted.figure.Goals as goal

pub loop-t-init : goal.loop-t-init
loop-t-init g c =
    let p = c.args.self.now.policy.now in
    record {
      started = omega arith;
      failed = λ s one below within passes. omega arith;
      told = told_none (g.P.Policy.takes p) (g.P.Policy.demand p) (g.met.P.Policy.none p) c.args.self.now.lines.now c.args.self.now.taken;
    }

pub returns-then-load-t-clause-figure : goal.returns-then-load-t-clause-figure
returns-then-load-t-clause-figure g c l within =
    rw (← c.in_ok-line.ensures.lookup.3.1 l) (smallest c.loop-t.invariant.started (omega (arith, c.limit.ensures.is)) (omega (arith, c.load_at-load.ensures.is, c.demanded-own.ensures.is)) (λ s one below passes. c.loop-t.invariant.failed s one below (omega (arith, c.limit.ensures.is)) passes))

pub loop-t-preserved : goal.loop-t-preserved
loop-t-preserved g c =
    let p = c.args.self.now.policy.now in
    let ls = c.args.self.now.lines.now in
    let t = c.loop-t.t in
    record {
      started = omega arith;
      failed = λ s one below within passes. ⊎_elim
          (λ (h : s < t). c.loop-t.invariant.failed s one h within passes)
          (λ (h : t ≤ s). omega (arith, passes, c.load_at-load.ensures.is, c.demanded-own.ensures.is, load_rises (g.met.P.Policy.rising p) (take c.args.place ls) t s (taken_above (g.P.Policy.takes p) ls c.args.place c.args.self.now.taken) h (omega (arith, c.limit.ensures.is, c.limit.ensures.small))))
          (cases_lt s t);
      told = c.load_at-load.ensures.told;
    }

pub returns-clause-figure : goal.returns-clause-figure
returns-clause-figure g c l within =
    rw (← c.in_ok-line.ensures.lookup.3.1 l) (none (λ s one within passes. c.loop-t.invariant.failed s one (omega (arith, c.limit.ensures.is)) within passes))
