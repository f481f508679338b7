use Rattle.std.proofs.Common.{◌≤◌, mod-eq_of_lt, arith}
use Rattle.words.proofs.Words.{narrow_more, bit_fits, bits_more}
use Rattle.words.proofs.bits.word_of.Goals as goal

pub loop-place-preserved : goal.loop-place-preserved
loop-place-preserved g c =
    let w = c.loop-place.word in
    let n = c.loop-place.place in
    let b = c.told.result in
    let small : b ≤ 1 = c.requires.small n b c.loop-place-test.true c.told.ensures in
    let narrow = c.loop-place.invariant.narrow in
    rw (mod-eq_of_lt (bit_fits w n b (omega arith) narrow small)) (record {
      bits = bits_more (goal.F-post g c.args.told) w n b narrow small c.loop-place.invariant.bits c.told.ensures;
      narrow = narrow_more w n b narrow small;
    })
