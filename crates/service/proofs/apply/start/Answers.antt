use Rattle.std.proofs.Common.{[], sym, subst}
use Rattle.policies.specs.Promises.{Meaning}
use Rattle.policies.specs.Means.{meaning}
use Rattle.policies.proofs.Promised.{promised}
use Rattle.engine.specs.Status.{Status}
use Rattle.service.specs.Served.{no_call}
use Rattle.service.specs.Guarantee.{Service}
use Rattle.service.proofs.Whole.{service}
use Rattle.service.proofs.apply.start.Goals as goal

pub returns : goal.returns
returns g c =
    let p = c.args.policy in
    let m : Meaning = meaning g.P.Policy p in
    let law = g.met.P.Policy in
    let kept = promised (law.reliable p) (law.bounded p) (law.none p) (law.rising p) (law.capped p) in
    record { service = subst (λ (st : Status). Service m [] st) (sym c.new.ensures.status) (service m kept no_call); policy = c.new.ensures.policy }
