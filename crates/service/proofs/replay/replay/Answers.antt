use Rattle.std.proofs.Common.{◌≡◌, ◌+◌, ◌<◌, List, [], ◌∷◌, reverse, length, get_or, take, set, sym, refl, ap, ◌∙◌, subst, arith}
use lib.Seq.{map-set_same}
use Rattle.std.proofs.lemmas.List.{take_all, take_more_set, reverse-append}
use Rattle.policies.specs.Means.{meaning}
use Rattle.engine.specs.Status.{status_of}
use Rattle.service.specs.declared.log.Entry.{Entry}
use Rattle.service.specs.Served.{Served}
use Rattle.service.specs.Guarantee.{Service}
use Rattle.service.proofs.replay.replay.Goals as goal

pub loop-item-init : goal.loop-item-init
loop-item-init g c =
    let m = λ (p : g.row.P.Denot). meaning g.P.Policy p in
    let made = c.start-engine.ensures in
    (refl, refl, subst (λ (p : g.row.P.Denot). Service (meaning g.P.Policy p) [] (status_of c.start-engine.result.state)) (sym made.policy) made.service)

pub loop-item-preserved : goal.loop-item-preserved
loop-item-preserved g c =
    let p = c.start-engine.result.policy in
    let log = c.loop-item.log in
    let i = c.loop-item.item-index in
    let was = status_of c.loop-item.engine.state in
    let after = status_of c.apply-item.new.engine.state in
    let old = get_or log i c.item-item.result in
    let new : Entry = record { call = old.call; answer = c.apply-item.result } in
    let inside : i < length log = omega arith in
    let more : reverse (take (i + 1) (set log i new)) ≡ new ∷ reverse (take i log) = ap reverse (take_more_set log i new inside) ∙ reverse-append (take i log) (new ∷ []) in
    let step = subst (λ (q : g.row.P.Denot). (xs : List Entry) → Served (meaning g.P.Policy q) xs was
    → Service (meaning g.P.Policy q) (new ∷ xs) after) c.loop-item.invariant.0 c.apply-item.ensures.service in (
      c.apply-item.ensures.policy ∙ c.loop-item.invariant.0,
      map-set_same (λ (e : Entry). e.call) log i new c.item-item.result refl ∙ c.loop-item.invariant.1,
      subst (λ (xs : List Entry). Service (meaning g.P.Policy p) xs after) (sym more) (step (reverse (take i log)) c.loop-item.invariant.2.served),
    )

pub returns : goal.returns
returns g c =
    let log = c.loop-item.log in
    let now = status_of c.loop-item.engine.state in
    let all : take c.loop-item.item-index log ≡ log = take_all _ _ (omega arith) in
    let made = c.start-engine.ensures in
    record {
      calls = c.loop-item.invariant.1;
      service = subst (λ (p : g.row.P.Denot). Service (meaning g.P.Policy p) (reverse log) now) made.policy
          (subst (λ (xs : List Entry). Service (meaning g.P.Policy c.start-engine.result.policy) (reverse xs) now) all c.loop-item.invariant.2);
      policy = c.loop-item.invariant.0 ∙ made.policy;
    }
