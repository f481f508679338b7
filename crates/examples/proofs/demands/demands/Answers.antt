use Rattle.std.proofs.Common.{[], ◌∷◌, ◌∙◌}
use Rattle.examples.proofs.Demanded.{spread_fits, last_fits, demands_are}
use Rattle.examples.proofs.demands.demands.Goals as goal

pub returns : goal.returns
returns c =
    (λ i. c.demand.ensures spread_fits i ∷ c.demand-2.ensures spread_fits i ∷ c.demand-3.ensures spread_fits i ∷ c.demand-4.ensures spread_fits i ∷ c.demand-5.ensures last_fits i ∷ [])
    ∙ demands_are
