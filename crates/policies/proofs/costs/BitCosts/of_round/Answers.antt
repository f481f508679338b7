use Rattle.policies.specs.Costs.{round_cost}
use Rattle.policies.proofs.costs.BitCosts.of_round.Goals as goal

pub returns-clause-is : goal.returns-clause-is
returns-clause-is c =
    let l = c.args.line.now in
    rw (c.from.ensures, c.from-2.ensures) (round_cost c.args.self.zero c.args.self.one l.word l.k l.m l.reliable l.window.1)
