use Rattle.std.proofs.Common.{Ok, refl, ap}
use Rattle.std.proofs.lemmas.Result.{err_from_is_err_and}
use Rattle.engine.specs.declared.state.Task.{Task}
use Rattle.engine.specs.Steps.{of_line}
use Rattle.engine.proofs.Found.{found, held_at, place_few, refused}
use Rattle.engine.proofs.engine.Engine.counts.Goals as goal

pub returns-in_err-held-clause-told : goal.returns-in_err-held-clause-told
returns-in_err-held-clause-told g c =
    let p = err_from_is_err_and c.from_residual.result c.from_residual.ensures.1 in
    rw (p.1, p.2) (refused _ _ _ _ _ c.in_err-held.ensures)

pub bounds-self-branch : goal.bounds-self-branch
bounds-self-branch g c = place_few c.args.self.now.state c.args.task _ (found _ _ _ _ c.in_ok-held.ensures)

pub returns-clause-told : goal.returns-clause-told
returns-clause-told g c =
    let f = found _ _ _ _ c.in_ok-held.ensures in
    of_line f.there f.line (ap (λ (t : Task). Ok (t.releases, t.ends)) (held_at c.args.self.now.state c.args.task _ f), refl)
