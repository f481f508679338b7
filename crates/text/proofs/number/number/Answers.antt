use Rattle.std.proofs.Common.{length, ◌<◌, arith}
use Rattle.text.proofs.Steps.{number_grown}
use Rattle.text.proofs.number.number.Goals as goal

pub returns-in_err-checked_mul : goal.returns-in_err-checked_mul
returns-in_err-checked_mul c =
    let h : c.loop-digit.digit-index < length c.args.digits.now = omega arith in
    let grown = number_grown c.loop-digit.value c.args.digits.now c.loop-digit.digit-index h c.loop-digit.invariant.1 in
    rw c.from_residual.ensures (λ _. omega (arith, grown, c.in_err-checked_mul.ensures))

pub returns-in_err-value : goal.returns-in_err-value
returns-in_err-value c =
    let h : c.loop-digit.digit-index < length c.args.digits.now = omega arith in
    let grown = number_grown c.loop-digit.value c.args.digits.now c.loop-digit.digit-index h c.loop-digit.invariant.1 in
    rw c.from_residual-in_err-value.ensures (λ _. omega (arith, grown, c.in_err-value.ensures, c.in_ok-checked_mul.ensures))
