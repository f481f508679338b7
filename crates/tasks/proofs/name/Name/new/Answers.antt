use Rattle.std.proofs.Common.{◌≡◌, true, length, sym, refl, ap, ◌∙◌, rules, tests}
use Rattle.std.proofs.lemmas.List.{take_at}
use Rattle.std.proofs.lemmas.Iterator.{YieldsList-from_slice}
use Rattle.std.proofs.lemmas.Iterator.Search.{all_from_yields_List}
use Rattle.tasks.specs.Bytes.{every, name_byte}
use Rattle.tasks.proofs.name.Name.new.Goals as goal

pub invariant_of-result-clause-letters : goal.invariant_of-result-clause-letters
invariant_of-result-clause-letters c =
    let bs = c.args.bytes.now in
    let all : every name_byte bs ≡ true = sym (all_from_yields_List name_byte _ _ c.all.result c.all.ensures.ran (YieldsList-from_slice bs c.iter.ensures.rest) (λ x b q k. search (rules, tests))) ∙ search rules in
    rw c.copy_from_slice.ensures.after (ap (every name_byte) (take_at bs _ (length bs) refl) ∙ all)
