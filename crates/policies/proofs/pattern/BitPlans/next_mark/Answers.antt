use Rattle.std.proofs.Common.{◌+◌, ◌%◌, cond, sym, ap, ◌∙◌}
use native.Mathlib.Nat.{mod-add-mod}
use Rattle.policies.specs.Patterns.{moves, pattern_plan}
use Rattle.policies.specs.RunLemmas.{moves_allowed}
use Rattle.policies.proofs.pattern.BitPlans.next_mark.Goals as goal

pub returns-then-goes_on : goal.returns-then-goes_on
returns-then-goes_on c =
    let q = c.args.mark in
    let l = c.args.line.now in
    let p = pattern_plan c.args.self c.args.turn l q in
    let moved = c.if-goes_on.ensures ∙ ap (λ x. moves x c.args.ending) c.plan_at.ensures in
    record {
      is = ap (λ k. (q % k + 1) % k) c.from-k.ensures ∙ mod-add-mod q l.k 1 ∙ ap (λ t. cond t ((q + 1) % l.k) q) moved;
      stays = λ not. absurd (not (moves_allowed p c.args.ending (sym moved)));
    }
