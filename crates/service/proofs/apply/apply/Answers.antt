use Rattle.policies.specs.Promises.{Meaning}
use Rattle.policies.specs.Means.{meaning}
use Rattle.policies.proofs.Promised.{promised}
use Rattle.service.specs.Served.{one_more}
use Rattle.service.proofs.Whole.{service}
use Rattle.service.proofs.apply.apply.Goals as goal

pub returns : goal.returns
returns g c =
    let p = c.args.engine.now.policy in
    let m : Meaning = meaning g.P.Policy p in
    let law = g.met.P.Policy in
    let kept = promised (law.reliable p) (law.bounded p) (law.none p) (law.rising p) (law.capped p) in
    record {
      step = c.made.ensures.step;
      service = λ log before. service m kept (one_more (record { call = c.args.call.now; answer = c.made.result }) before c.made.ensures.step);
      policy = c.made.ensures.policy;
    }
