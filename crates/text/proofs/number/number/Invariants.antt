use Rattle.std.proofs.Common.{◌≡◌, drop}
use Rattle.tasks.specs.Bytes.{every, digit}
use Rattle.text.specs.Values.{number_after, number_of}
use Rattle.text.proofs.number.number.Given as goal

abbrev pub invariant-loop-digit : goal.invariant-loop-digit
invariant-loop-digit l =
    (every digit (drop l.digit-index l.digits) ≡ every digit l.digits)
    × (number_after l.value (drop l.digit-index l.digits) ≡ number_of l.digits)
