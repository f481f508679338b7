use Rattle.std.proofs.Common.{refl, ap}
use Rattle.std.proofs.lemmas.Result.{err_from_is_err_and}
use Rattle.engine.specs.Status.{open_lines}
use Rattle.engine.specs.Steps.{no_table, no_task, of_line}
use Rattle.engine.proofs.Found.{setup_at, lines_at, no_lines_at, told_none}
use Rattle.engine.proofs.engine.Engine.found.Goals as goal

pub returns-in_err-setup : goal.returns-in_err-setup
returns-in_err-setup g c =
    let p = err_from_is_err_and c.from_residual.result c.from_residual.ensures.1 in
    let none = c.in_err-setup.ensures.ok_part in
    rw (p.1, p.2, told_none c.in_err-setup.ensures.value none) (no_table refl (no_lines_at c.as_ref.ensures.value none))

pub returns-in_err-line : goal.returns-in_err-line
returns-in_err-line g c =
    let p = err_from_is_err_and c.from_residual-in_err-line.result c.from_residual-in_err-line.ensures.1 in
    rw (p.1, p.2, c.in_err-line.ensures.0) (no_task refl (lines_at c.as_ref.ensures.value c.in_ok-setup.ensures.ok_part) c.in_err-line.ensures.1)

pub returns : goal.returns
returns g c =
    let setup = setup_at c.as_ref.ensures.value c.in_ok-setup.ensures.ok_part in
    of_line (ap open_lines setup) c.in_ok-line.ensures (rw setup refl, refl)
