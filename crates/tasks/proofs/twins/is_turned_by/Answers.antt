use Rattle.std.proofs.Common.{◌≡◌, arith, rules, tests}
use Rattle.std.proofs.lemmas.Iterator.{YieldsList-from_range, cases_from_all}
use Rattle.words.specs.Bits.{bit}
use Rattle.words.specs.Turns.{turned_bit}
use Rattle.tasks.proofs.TwinLemmas.{Decides-bits}
use Rattle.tasks.proofs.twins.is_turned_by.Goals as goal

pub returns : goal.returns
returns c =
    let a = c.args.a.now in
    let b = c.args.b.now in
    let s = c.args.by in
    Decides-bits a.word a.k s b.word c.all.result
    (cases_from_all _ _ _ (λ j. bit b.word j ≡ turned_bit a.word a.k s j) (λ j. bit b.word j ≡ turned_bit a.word a.k s j → ⊥) c.all.ensures.ran (YieldsList-from_range 0 a.k a.k (search rules) (omega arith)) (λ j q k. search (rules, tests)) (λ j q k. search (rules, tests)))
