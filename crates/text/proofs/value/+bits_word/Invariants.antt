use Rattle.std.proofs.Common.{length}
use Rattle.text.proofs.value.+bits_word.Given as goal

abbrev pub decreases-bits_word : goal.decreases-bits_word
decreases-bits_word l = length l.bytes.now
