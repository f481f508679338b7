use Rattle.std.proofs.Common.{rules, ◌+◌, ◌∙◌, arith}
use Rattle.std.proofs.lemmas.List.FromFn.{length-range_with_len}
use Rattle.std.proofs.lemmas.Iterator.{YieldsList-from_range, YieldsList-from_map}
use Rattle.std.proofs.lemmas.Iterator.Adapters.{total_from_yields_List, fits_from_length, at_most_from_yields_List}
use Rattle.policies.specs.Patterns.{cost_at}
use Rattle.policies.proofs.CostLemmas.{sum-range}
use Rattle.policies.proofs.costs.BitCosts.of_first.Goals as goal

pub sum-requires-clause-fits : goal.sum-requires-clause-fits
sum-requires-clause-fits c =
    fits_from_length _ _ 64 _ (at_most_from_yields_List (YieldsList-from_range 0 c.args.n c.args.n c.map.ensures.source (omega arith)) (omega (arith, length-range_with_len 0 c.args.n))) c.map.ensures.closure (omega arith) (λ x r q k. search rules)

pub returns : goal.returns
returns c =
    let f = cost_at c.args.self.zero c.args.self.one c.args.word in
    let n = c.args.n in
    total_from_yields_List (λ a x. a + x) 0 c.sum.result c.sum.ensures.ran (YieldsList-from_map _ f (YieldsList-from_range 0 n n c.map.ensures.source (omega arith)) c.map.ensures.closure (λ x r q k. search rules))
    ∙ sum-range f n
