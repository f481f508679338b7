use Rattle.std.proofs.Common.{◌≡◌, length, get_or, ap, subst}
use Rattle.tasks.specs.declared.line.Line.{Line}
use Rattle.tasks.specs.Tables.{lines_of}
use Rattle.std.proofs.Common.{List}
use Rattle.engine.proofs.Ticks.{first_turn}
use Rattle.engine.proofs.engine.Engine.running.Goals as goal

pub returns : goal.returns
returns g c =
    let ls = lines_of c.args.table.now in
    let l = c.index-lines-place.result in
    let place = c.in_ok-place.place in
    let line : l ≡ get_or ls place l = subst (λ (xs : List Line). l ≡ get_or xs place l) c.lines-lines.ensures.is c.index-lines-place.is in
    first_turn c.args.self.now.state ls (length c.lines-lines.result.now) (ap length c.lines-lines.ensures.is) place l c.in_ok-place.job c.in_ok-place.ensures line
