use Rattle.std.proofs.Common.{rules}
use Rattle.text.proofs.Laws.{accepts}
use Rattle.text.proofs.read.read.Goals as goal

pub returns-then-is_err-clause-accepts : goal.returns-then-is_err-clause-accepts
returns-then-is_err-clause-accepts c = accepts c.args.text.now c.load-answer.result _ (search rules)

pub returns-else-is_err-clause-accepts : goal.returns-else-is_err-clause-accepts
returns-else-is_err-clause-accepts c = accepts c.args.text.now c.load-answer.result c.load-answer.new.table (search rules)
