use Rattle.std.proofs.Common.{◌≡◌, ◌≤◌, sym, ap, ◌∙◌, arith}
use Rattle.words.proofs.Sums.{row_front}
use Rattle.words.proofs.Rows.{row_slides, row_bound, greatest_row_bound, best_start, best_none, best_more, best_all}
use Rattle.policies.specs.Promises.{most_per_job}
use Rattle.policies.specs.Patterns.{cost_at}
use Rattle.policies.proofs.CostLemmas.{costs_small}
use Rattle.policies.proofs.costs.BitCosts.greatest_window.Goals as goal

pub loop-start-init : goal.loop-start-init
loop-start-init c =
    let f = cost_at c.args.self.zero c.args.self.one c.args.line.now.word in
    let k = c.args.line.now.k in
    let within : c.args.n ≤ k = omega arith in
    (c.of_first-sum.ensures ∙ sym (row_front f k c.args.n within), sym (best_none f k c.args.n))

pub overflow_add-sum : goal.overflow_add-sum
overflow_add-sum c =
    let l = c.args.line.now in
    omega (arith, row_bound (cost_at c.args.self.zero c.args.self.one l.word) l.k most_per_job (costs_small c.args.self l.word) c.loop-start.start c.args.n, l.window)

pub overflow_sub-sum : goal.overflow_sub-sum
overflow_sub-sum c =
    let l = c.args.line.now in
    omega (arith, row_slides (cost_at c.args.self.zero c.args.self.one l.word) l.k c.loop-start.start c.args.n (omega arith), c.at-entering.ensures.is, c.at.ensures.is)

pub loop-start-preserved : goal.loop-start-preserved
loop-start-preserved c =
    let l = c.args.line.now in
    let f = cost_at c.args.self.zero c.args.self.one l.word in
    (omega (arith, row_slides f l.k c.loop-start.start c.args.n (omega arith), c.at-entering.ensures.is, c.at.ensures.is), omega (arith, best_more f l.k c.args.n c.loop-start.start))

pub returns : goal.returns
returns c =
    let l = c.args.line.now in
    let f = cost_at c.args.self.zero c.args.self.one l.word in
    let end : c.loop-start.start ≡ l.k = omega arith in
    let all = c.loop-start.invariant.1 ∙ ap (best_start f l.k c.args.n) end ∙ best_all f l.k c.args.n in
    record { is = all; small = omega (arith, all, greatest_row_bound f l.k most_per_job (costs_small c.args.self l.word) c.args.n) }
