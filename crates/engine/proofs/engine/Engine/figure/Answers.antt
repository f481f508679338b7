use Rattle.std.proofs.Common.{Ok, refl, ap}
use Rattle.std.proofs.lemmas.Result.{err_from_is_err_and}
use Rattle.engine.specs.Steps.{of_line}
use Rattle.engine.proofs.Found.{found, refused}
use Rattle.engine.proofs.engine.Engine.figure.Goals as goal

pub returns-in_err-found-clause-told : goal.returns-in_err-found-clause-told
returns-in_err-found-clause-told g c =
    let p = err_from_is_err_and c.from_residual.result c.from_residual.ensures.1 in
    rw (p.1, p.2) (refused _ _ _ _ _ c.in_err-found.ensures)

pub returns-clause-told : goal.returns-clause-told
returns-clause-told g c =
    let f = found _ _ _ _ c.in_ok-found.ensures in
    of_line f.there f.line (ap Ok f.figure, refl)
