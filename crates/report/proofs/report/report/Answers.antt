use Rattle.std.proofs.Common.{◌≡◌, ◌++◌, rules}
use Rattle.std.proofs.lemmas.Result.{IfOk-weaker}
use Rattle.tasks.specs.Lines.{names}
use Rattle.tasks.specs.Tables.{lines_of}
use Rattle.report.specs.Answer.{figure_lines, verdict_line, unread, refused, worked_out}
use Rattle.report.proofs.Once.{the_answer}
use Rattle.report.proofs.report.report.Goals as goal

pub returns-in-Err : goal.returns-in-Err
returns-in-Err c = IfOk-weaker c.refused.result _ _ (λ v e. the_answer c.args.text.now e (unread c.in-Err.ensures.says.0)) c.refused.ensures

pub returns-in_ok-extend_from_slice-in-Ok : goal.returns-in_ok-extend_from_slice-in-Ok
returns-in_ok-extend_from_slice-in-Ok c =
    let e : c.extend_from_slice.new.self.items ≡ figure_lines 1 (names (lines_of c.read.new.table)) c.figures.new.figures ++ verdict_line c.in-Ok.admitted = search rules in
    the_answer c.args.text.now e (worked_out c.read.new.table c.in_default.ensures.says c.in-Ok.ensures)

pub returns-in-Err-figures : goal.returns-in-Err-figures
returns-in-Err-figures c =
    IfOk-weaker
    c.refused-in-Err-figures.result
    _
    _
    (λ v e. the_answer c.args.text.now e (refused c.read.new.table c.in_default.ensures.says c.in-Err-figures.ensures))
    c.refused-in-Err-figures.ensures
