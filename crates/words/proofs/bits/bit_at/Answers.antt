use Rattle.std.proofs.Common.{sym}
use Rattle.words.proofs.Words.{bit_past}
use Rattle.words.proofs.bits.bit_at.Goals as goal

pub returns-else-place-lt64 : goal.returns-else-place-lt64
returns-else-place-lt64 c = sym (bit_past c.args.word 64 c.args.place c.ranges.word.fits c.if-place-lt64.false)
