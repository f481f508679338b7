use Rattle.std.proofs.Common.{◌≡◌, ◌+◌, get_or, Some, refl, ap, ◌∙◌, arith, rules}
use Rattle.std.proofs.lemmas.Result.{err_from_is_err_and}
use Rattle.policies.specs.Promises.{Meaning}
use Rattle.policies.specs.Means.{meaning}
use Rattle.engine.specs.Jobs.{unused, ran, task_after}
use Rattle.engine.specs.Kept.{Fair}
use Rattle.engine.specs.Steps.{unopened, spent, ticks, idles, no_job, unheard}
use Rattle.engine.proofs.Tasks.{each_set}
use Rattle.engine.proofs.Found.{lines_at, no_lines_at, told_none}
use Rattle.engine.proofs.Ticks.{turn_job, unsaid, goes_on, goes_not, heard_by, ticked, after_fair}
use Rattle.engine.proofs.engine.Engine.tick.Goals as goal

pub returns-in_err-setup-clause-step : goal.returns-in_err-setup-clause-step
returns-in_err-setup-clause-step g c =
    let p = err_from_is_err_and c.from_residual.result c.from_residual.ensures.1 in
    let none = c.in_err-setup.ensures.ok_part in
    rw (p.1, p.2, told_none c.in_err-setup.ensures.value none) (unopened refl (no_lines_at c.as_ref.ensures.value none))

pub returns-then-self-ge-MOST_TICKS-clause-step : goal.returns-then-self-ge-MOST_TICKS-clause-step
returns-then-self-ge-MOST_TICKS-clause-step g c = spent refl (lines_at c.as_ref.ensures.value c.in_ok-setup.ensures.ok_part) (omega arith)

pub returns-in_err-word-clause-step : goal.returns-in_err-word-clause-step
returns-in_err-word-clause-step g c =
    let p = err_from_is_err_and c.from_residual-in_err-word.result c.from_residual-in_err-word.ensures.1 in
    let there = lines_at c.as_ref.ensures.value c.in_ok-setup.ensures.ok_part in
    rw (p.1, p.2, c.in_err-word.ensures.0) (unsaid _ _ _ _ there (omega arith) c.in_err-word.ensures.1)

pub returns-then-ne-clause-step : goal.returns-then-ne-clause-step
returns-then-ne-clause-step g c =
    let there = lines_at c.as_ref.ensures.value c.in_ok-setup.ensures.ok_part in
    ticks there (omega arith) (no_job refl c.in_default.ensures (omega (arith, c.in_ok-word.ensures, goes_not _ c.if-ne.ensures)))

pub returns-in_default-clause-step : goal.returns-in_default-clause-step
returns-in_default-clause-step g c =
    let there = lines_at c.as_ref.ensures.value c.in_ok-setup.ensures.ok_part in
    ticks there (omega arith) (idles c.in_default.ensures (omega (arith, c.in_ok-word.ensures, goes_on _ c.if-ne.ensures)))

pub returns-in_err-outcome-clause-step : goal.returns-in_err-outcome-clause-step
returns-in_err-outcome-clause-step g c =
    let p = err_from_is_err_and c.from_residual-in_err-outcome.result c.from_residual-in_err-outcome.ensures.1 in
    let there = lines_at c.as_ref.ensures.value c.in_ok-setup.ensures.ok_part in
    let none = c.in_err-outcome.ensures.ok_part in
    let deaf = heard_by _ _ c.in_ok-word.ensures c.advance.ensures.answer none in
    rw (p.1, p.2, told_none c.in_err-outcome.ensures.value none) (ticks there (omega arith) (unheard refl c.in-Some.ensures deaf))

pub invariant_of-self-2 : goal.invariant_of-self-2
invariant_of-self-2 g c =
    let self = c.args.self.now in
    let s = self.state in
    let p = self.policy in
    let m : Meaning = meaning g.P.Policy p in
    let x = c.in-Some.running in
    let out = c.in_ok-outcome.outcome in
    let held = get_or s.tasks x.place unused in
    let says = heard_by _ _ {y = Some out} c.in_ok-word.ensures c.advance.ensures.answer c.in_ok-outcome.ensures.ok_part in
    let is : c.task_after.result ≡ task_after m x.line held x.job out = c.task_after.ensures x.job (c.advance.ensures.job ∙ ap (ran x.line x.job) c.in_ok-outcome.ensures.ok_part) in
    let job = turn_job s _ x.place x.line x.job c.in-Some.ensures in
    let fair : Fair (s.ticks + 1) c.task_after.result = rw is (after_fair m s.ticks x.line held x.job out c.args.word says job (self.fair x.place)) in
    record { ticked = omega arith; fair = each_set (Fair (s.ticks + 1)) s.tasks x.place c.task_after.result (λ k. omega (arith, self.fair k)) fair }

pub returns-clause-step : goal.returns-clause-step
returns-clause-step g c =
    let s = c.args.self.now.state in
    let x = c.in-Some.running in
    let out = c.in_ok-outcome.outcome in
    let there = lines_at c.as_ref.ensures.value c.in_ok-setup.ensures.ok_part in
    let says = heard_by _ _ {y = Some out} c.in_ok-word.ensures c.advance.ensures.answer c.in_ok-outcome.ensures.ok_part in
    let is = c.task_after.ensures x.job (c.advance.ensures.job ∙ ap (ran x.line x.job) c.in_ok-outcome.ensures.ok_part) in
    rw is (ticked _ s _ there (omega arith) x.place c.args.word x.line x.job out (search rules) c.in-Some.ensures says)
