use Rattle.std.proofs.Common.{◌∙◌}
use Rattle.std.proofs.lemmas.Result.{err_from_is_err_and}
use Rattle.text.specs.Rules.{head_rules, time_rules}
use Rattle.text.specs.Layers.{nine}
use Rattle.text.proofs.Broken.{broken_first, broken_second}
use Rattle.text.proofs.line.Fields.line.Goals as goal

pub returns-in_err-h : goal.returns-in_err-h
returns-in_err-h c =
    let p = err_from_is_err_and c.from_residual.result c.from_residual.ensures.1 in
    let fs = nine c.args.self in
    rw (p.1, p.2) (broken_first (head_rules c.args.self.number fs) (time_rules c.args.self.number fs) _ c.in_err-h.ensures)

pub returns-in_err-times : goal.returns-in_err-times
returns-in_err-times c =
    let p = err_from_is_err_and c.from_residual-in_err-times.result c.from_residual-in_err-times.ensures.1 in
    let fs = nine c.args.self in
    rw (p.1, p.2) (broken_second (head_rules c.args.self.number fs) (time_rules c.args.self.number fs) c.in_ok-h.ensures.0 ∙ c.in_err-times.ensures)
