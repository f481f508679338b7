use Rattle.std.proofs.Common.{◌≡◌, ◌+◌, ◌*◌, ◌<◌, sym, ap, ◌∙◌, subst, arith}
use Rattle.words.specs.Sums.{greatest_row, GreatestRow}
use Rattle.words.proofs.Rows.{greatest_row_whole, is_greatest_row}
use Rattle.policies.specs.Endings.{worst}
use Rattle.policies.specs.Patterns.{cost_at, bit_cost}
use Rattle.policies.proofs.pattern.BitPlans.demand_of.Goals as goal

pub returns : goal.returns
returns c =
    let l = c.args.line.now in
    let z = c.costs-costs.result.zero in
    let o = c.costs-costs.result.one in
    let n = c.args.jobs in
    let f = bit_cost c.args.self l in
    let some : 0 < l.k = omega (arith, l.window) in
    let found : c.from-rounds.result * c.of_round.result + c.greatest_window.result ≡ greatest_row (cost_at z o l.word) l.k n = rw (c.from-rounds.ensures, c.of_round.ensures.is, c.greatest_window.ensures.is) (sym (greatest_row_whole (cost_at z o l.word) l.k some n)) in
    let same : greatest_row (cost_at z o l.word) l.k n ≡ greatest_row f l.k n = ap (λ x. greatest_row (cost_at x o l.word) l.k n) c.costs-costs.ensures.zero ∙ ap (λ x. greatest_row (cost_at (worst l c.args.self.on_zero) x l.word) l.k n) c.costs-costs.ensures.one in
    record { is = found ∙ same; greatest = subst (GreatestRow f l.k n) (sym (found ∙ same)) (is_greatest_row f l.k some n) }
