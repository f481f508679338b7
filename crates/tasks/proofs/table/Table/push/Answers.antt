use Rattle.std.proofs.Common.{◌<◌, length, arith, rules}
use Rattle.std.proofs.lemmas.Bool.Decides.{not_from_Decides}
use Rattle.tasks.proofs.Growing.{rising_more, apart_more}
use Rattle.tasks.proofs.table.Table.push.Goals as goal

pub invariant_of-self-clause-rising : goal.invariant_of-self-clause-rising
invariant_of-self-clause-rising c =
    let t = c.args.self.now in
    let room : t.len < length t.lines = search rules in
    rising_more t.lines t.len c.args.line room t.rising (omega (arith, c.last_period.ensures))

pub invariant_of-self-clause-apart : goal.invariant_of-self-clause-apart
invariant_of-self-clause-apart c =
    let t = c.args.self.now in
    let room : t.len < length t.lines = search rules in
    apart_more t.lines t.len c.args.line room t.apart (not_from_Decides _ c.uses.ensures c.if-uses.false)
