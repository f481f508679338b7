use Rattle.std.proofs.Common.{Ok, Err, sym, refl, ap, ◌∙◌, subst, arith}
use Rattle.std.proofs.lemmas.Result.{err_from_is_err_and}
use Rattle.tasks.specs.Tables.{lines_of}
use Rattle.policies.specs.Promises.{Meaning}
use Rattle.policies.specs.Means.{meaning}
use Rattle.engine.specs.Kept.{Fair}
use Rattle.engine.specs.Status.{Status, open_lines, open_figures, status_of}
use Rattle.engine.specs.Steps.{Opening, already_open, unfit, opens, opened, closed}
use Rattle.engine.proofs.Tasks.{each_unused, all_unused}
use Rattle.engine.proofs.Found.{none_of, some_of, refused_places, status_eq}
use Rattle.engine.proofs.engine.Engine.open.Goals as goal

pub returns-then-is_some-clause-step : goal.returns-then-is_some-clause-step
returns-then-is_some-clause-step g c = already_open refl (ap open_lines (some_of c.args.self.now.state.setup (sym c.is_some.ensures ∙ c.if-is_some.true)).1)

pub returns-in_err-admitted-clause-step : goal.returns-in_err-admitted-clause-step
returns-in_err-admitted-clause-step g c =
    let s = c.args.self.now.state in
    let p = c.args.self.now.policy in
    let m : Meaning = meaning g.P.Policy p in
    let e = err_from_is_err_and c.from_residual.result c.from_residual.ensures.1 in
    let shut = none_of s.setup (sym c.is_some.ensures ∙ c.if-is_some.false) in
    let places = c.figures.new.figures in
    let was : Status = status_of s in
    let step : Opening m was c.args.table.now (Err c.in_err-admitted.field-0.0) (closed was places) = unfit (ap open_lines shut) c.in_err-admitted.ensures in
    let same = status_eq (closed was places) was (sym (ap open_lines shut)) (refused_places _ _ _ places _ c.in_err-admitted.ensures ∙ sym (ap open_figures shut)) refl refl in
    rw (e.1, e.2) (subst (Opening m was c.args.table.now (Err c.in_err-admitted.field-0.0)) same step)

pub invariant_of-self : goal.invariant_of-self
invariant_of-self g c = record { ticked = c.args.self.now.ticked; fair = each_unused (Fair c.args.self.now.state.ticks) (omega arith) 32 }

pub returns-clause-step : goal.returns-clause-step
returns-clause-step g c =
    let s = c.args.self.now.state in
    let p = c.args.self.now.policy in
    let m : Meaning = meaning g.P.Policy p in
    let shut = none_of s.setup (sym c.is_some.ensures ∙ c.if-is_some.false) in
    let ls = lines_of c.args.table.now in
    let places = c.figures.new.figures in
    let was : Status = status_of s in
    let step : Opening m was c.args.table.now (Ok c.in_ok-admitted.admitted) (opened was ls places) = opens (ap open_lines shut) c.in_ok-admitted.ensures in
    subst (Opening m was c.args.table.now (Ok c.in_ok-admitted.admitted)) (status_eq (opened was ls places) _ refl refl refl (sym (all_unused 32))) step
