use Rattle.std.proofs.Common.{sym, ◌∙◌, arith, rules, tests}
use Rattle.std.proofs.lemmas.Iterator.{YieldsList-from_range, cases_from_any}
use Rattle.std.proofs.lemmas.Bool.{false≢true}
use Rattle.tasks.specs.declared.job.Version.TheVariants.{Bare, Detect, Correct}
use Rattle.words.specs.Turns.{Turned}
use Rattle.tasks.proofs.TwinLemmas.{word_turned, Decides-twins}
use Rattle.tasks.proofs.twins.are_twins.Goals as goal

pub returns-then-eq : goal.returns-then-eq
returns-then-eq c =
    let a = c.args.a.now in
    let b = c.args.b.now in
    Decides-twins a b (search (rules, tests)) (search (rules, tests)) (search (rules, tests)) (search (rules, tests)) (search (rules, tests)) (search (rules, tests)) (search (rules, tests)) c.any.result
    (cases_from_any _ _ _ (λ s. Turned a.word a.k s b.word) (λ s. Turned a.word a.k s b.word → ⊥) c.any.ensures.ran (YieldsList-from_range 0 a.k a.k (search rules) (omega arith)) (λ s q k. search (rules, tests, word_turned a b)) (λ s q k. (search (rules, tests), λ t. let bits = t.bits in search (rules, tests))))

pub returns-else-eq : goal.returns-else-eq
returns-else-eq c = (
  (λ e. absurd (false≢true (sym c.if-eq.false ∙ e))),
  (λ t.
      let technique = t.technique in
      let m = t.right in
      let k = t.of in
      let bare = t.times Bare in
      let detect = t.times Detect in
      let correct = t.times Correct in
      let period = t.period in
      search (rules, tests)),
)
