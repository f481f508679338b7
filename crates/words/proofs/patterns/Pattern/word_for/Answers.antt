use Rattle.std.proofs.Common.{rules}
use Rattle.words.proofs.PatternLemmas.{pattern_follows}
use Rattle.words.proofs.patterns.Pattern.word_for.Goals as goal

pub returns : goal.returns
returns c =
    let q = c.args.quota in
    pattern_follows c.args.self q.m q.k _ q.window (λ j h. search (rules, c.word_of.ensures.bits j h)) c.word_of.ensures.narrow
