use Rattle.std.proofs.Common.{◌≡◌, reverse, take}
use Rattle.policies.specs.Promises.{Meaning}
use Rattle.policies.specs.Means.{meaning}
use Rattle.engine.specs.Status.{status_of}
use Rattle.service.specs.Served.{calls}
use Rattle.service.specs.Guarantee.{Service}
use Rattle.service.proofs.replay.replay.Given as goal

abbrev pub invariant-loop-item : goal.invariant-loop-item
invariant-loop-item g l =
    let p = l.initial.engine.policy in
    let m : Meaning = meaning g.P.Policy p in
    (l.engine.policy ≡ p) × (calls l.log ≡ calls l.initial.log) × Service m (reverse (take l.item-index l.log)) (status_of l.engine.state)
