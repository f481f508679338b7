use Rattle.std.proofs.Common.{arith, ◌≤◌, length}
use Rattle.std.proofs.lemmas.Bool.Decides.{nat_tests}
use Rattle.std.proofs.lemmas.Result.{err_from_is_err_and}
use Rattle.response.specs.Figures.{worked_out, no_lines, declined}
use Rattle.response.proofs.Places.{cleared}
use Rattle.response.proofs.figures.figures.Goals as goal

pub returns-then-is_empty : goal.returns-then-is_empty
returns-then-is_empty g c = rw (← c.lines.ensures.is) (no_lines (grind (arith, nat_tests)) cleared)

pub returns-in_err-accepted : goal.returns-in_err-accepted
returns-in_err-accepted g c =
    let p = err_from_is_err_and c.from_residual.result c.from_residual.ensures.1 in
    let h = c.in_err-accepted.ensures in
    rw (p.1, p.2, h.1) (declined h.2 cleared)

pub returns : goal.returns
returns g c =
    let h = c.in_ok-accepted.ensures in
    let some : 1 ≤ length c.lines.result.now = grind (arith, nat_tests) in
    rw (← h.0, ← h.1) (worked_out (rw (h.1, ← c.lines.ensures.is) some) c.in_ok-accepted.accepted.taken c.places.ensures c.is_admitted.ensures)
