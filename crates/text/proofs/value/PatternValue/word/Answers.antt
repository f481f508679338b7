use Rattle.std.proofs.Common.{sym, ◌∙◌}
use Rattle.text.proofs.Spelling.{bits_fit, bits_unfit}
use Rattle.text.proofs.value.PatternValue.word.Goals as goal
use Rattle.text.proofs.value.PatternValue.word.Goals.{else-count-quota-via-then-count-quota+else-count_ones-quota, else-count-quota-via-else-count-quota}

pub returns-then-count_ones-quota : goal.returns-then-count_ones-quota
returns-then-count_ones-quota c =
    λ bs said.
    bits_fit c.args.quota.m c.args.quota.k c.in-Bits.count c.in-Bits.word bs (rw c.in-Bits.is at said) c.if-count-quota.true (sym c.count_ones.ensures ∙ c.if-count_ones-quota.true)

pub returns-else-count-quota : goal.returns-else-count-quota
returns-else-count-quota c =
    λ bs said.
    bits_unfit c.args.quota.m c.args.quota.k c.in-Bits.count c.in-Bits.word bs (rw c.in-Bits.is at said)
    (λ size reliable.
    elim c.else-count-quota.branch [
      | else-count-quota-via-then-count-quota+else-count_ones-quota w ↦ w.if-count_ones-quota.false (w.count_ones.ensures ∙ reliable)
      | else-count-quota-via-else-count-quota w ↦ w.if-count-quota.false size
    ])
