use Rattle.std.proofs.Common.{refl, arith, rules}
use Rattle.words.proofs.TurnLemmas.{turned_from}
use Rattle.words.proofs.turns.turned.Goals as goal

pub returns : goal.returns
returns c = (
  omega arith,
  omega arith,
  turned_from c.args.word c.args.k c.args.by _ _ refl (λ j h. search (rules, c.word_of.ensures.bits j h)) c.word_of.ensures.narrow,
)
