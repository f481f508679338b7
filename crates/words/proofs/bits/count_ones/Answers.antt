use Rattle.std.proofs.Common.{◌∙◌, arith, rules}
use Rattle.std.proofs.lemmas.Iterator.{YieldsList-from_range, YieldsList-from_map}
use Rattle.std.proofs.lemmas.Iterator.Consumers.{sum_from_yields_List, fits_from_yields_list}
use Rattle.words.specs.Bits.{bit}
use Rattle.words.proofs.Sums.{sum_range, zeros_and_ones}
use Rattle.words.proofs.bits.count_ones.Goals as goal

pub sum-requires-clause-fits : goal.sum-requires-clause-fits
sum-requires-clause-fits c =
    let b = bit c.args.word in
    let k = c.args.k in
    fits_from_yields_list c.map.result 4294967296 (YieldsList-from_map _ b (YieldsList-from_range 0 k k c.map.ensures.source (omega arith)) c.map.ensures.closure (λ x r q h. search rules)) (omega (arith, sum_range b k, zeros_and_ones b (λ x. omega arith) k))

pub returns : goal.returns
returns c =
    let b = bit c.args.word in
    let k = c.args.k in
    sum_from_yields_List c.map.result _ c.sum.ensures.ran (YieldsList-from_map _ b (YieldsList-from_range 0 k k c.map.ensures.source (omega arith)) c.map.ensures.closure (λ x r q h. search rules)) ∙ sum_range b k
