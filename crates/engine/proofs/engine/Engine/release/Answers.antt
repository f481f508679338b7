use Rattle.std.proofs.Common.{◌<◌, get_or, sym, ◌∙◌, rules}
use Rattle.std.proofs.lemmas.Result.{err_from_is_err_and}
use Rattle.std.proofs.lemmas.Bool.{both_ways}
use Rattle.engine.specs.Jobs.{unused}
use Rattle.engine.proofs.Found.{none_of, found, place_few, refused}
use Rattle.engine.proofs.Releases.{too_early, job_open, accepted}
use Rattle.engine.proofs.engine.Engine.release.Goals as goal

pub returns-in_err-place-clause-step : goal.returns-in_err-place-clause-step
returns-in_err-place-clause-step g c =
    let p = err_from_is_err_and c.from_residual.result c.from_residual.ensures.1 in
    rw (p.1, p.2) (refused _ _ _ _ _ c.in_err-place.ensures)

pub bounds-self-place : goal.bounds-self-place
bounds-self-place g c = place_few c.args.self.now.state c.args.task _ (found _ _ _ _ c.in_ok-place.ensures)

pub returns-then-not-is_rested-clause-step : goal.returns-then-not-is_rested-clause-step
returns-then-not-is_rested-clause-step g c =
    too_early _ c.args.self.now.state c.args.task _ (found _ _ _ _ c.in_ok-place.ensures) (λ r. both_ways c.is_rested.result c.if-not-is_rested.true (c.is_rested.ensures.1 r))

pub returns-then-is_some-clause-step : goal.returns-then-is_some-clause-step
returns-then-is_some-clause-step g c =
    job_open _ c.args.self.now.state c.args.task _ (found _ _ _ _ c.in_ok-place.ensures) (c.is_rested.ensures.0 c.if-not-is_rested.false) (sym c.is_some.ensures ∙ c.if-is_some.true)

pub offset_bounds-self-place-2 : goal.offset_bounds-self-place-2
offset_bounds-self-place-2 g c =
    let small : c.in_ok-place.field-0.place < 32 = place_few c.args.self.now.state c.args.task _ (found _ _ _ _ c.in_ok-place.ensures) in
    search rules

pub bounds-self-place-2 : goal.bounds-self-place-2
bounds-self-place-2 g c = place_few c.args.self.now.state c.args.task _ (found _ _ _ _ c.in_ok-place.ensures)

pub returns-clause-step : goal.returns-clause-step
returns-clause-step g c =
    let s = c.args.self.now.state in
    let f = found _ _ _ _ c.in_ok-place.ensures in
    let held = get_or s.tasks c.in_ok-place.field-0.place unused in
    let rested = c.is_rested.ensures.0 c.if-not-is_rested.false in
    let closed = none_of held.job (sym c.is_some.ensures ∙ c.if-is_some.false) in
    rw c.begun.ensures (accepted _ s c.args.task _ f c.plan_at-plan.result (search rules) rested closed c.plan_at-plan.ensures)
