use Rattle.std.proofs.Common.{◌≡◌, [], sym, subst, ◌∙◌, arith, rules}
use Rattle.tasks.specs.Rows.{rows_of}
use Rattle.text.specs.Cuts.{closed}
use Rattle.text.specs.Reading.{with_lines}
use Rattle.text.specs.Layers.{lines_left}
use Rattle.text.proofs.Cutting.{AllUpTo, closed_up, ended_closed}
use Rattle.text.proofs.read.fill.Goals as goal

pub loop-line-init : goal.loop-line-init
loop-line-init c =
    let text = c.args.text.now in
    let left : lines_left c.into_iter-line-iterator.result ≡ closed 10 0 text = search rules in
    let none : rows_of c.new.result ≡ [] = search rules in (
      (λ i. with_lines (none i) ((left ∙ sym (ended_closed 10 0 text c.requires.fed)) i)),
      subst (AllUpTo 8192) (sym left) (closed_up 10 0 8192 text (omega arith)),
    )
