use Rattle.std.proofs.Common.{ℕ, ◌^◌, ◌<◌}
use Rattle.words.specs.Bits.{bit}
use Rattle.words.proofs.bits.word_of.Given as goal

abbrev pub invariant-loop-place : goal.invariant-loop-place
invariant-loop-place g l = record {
  bits : (j : ℕ) → j < l.place → goal.F-post g l.told j (bit l.word j);
  narrow : l.word < 2 ^ l.place;
}
