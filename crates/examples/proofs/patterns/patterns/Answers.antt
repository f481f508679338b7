use Rattle.std.proofs.Common.{[], ◌∷◌, ◌∙◌, lit≤}
use Rattle.words.specs.declared.patterns.Pattern.TheVariants.{R, E}
use Rattle.examples.proofs.Words.{told_word, words_are}
use Rattle.examples.proofs.patterns.patterns.Goals as goal

pub returns : goal.returns
returns c =
    let a = told_word R 3 10 (lit≤ tt, lit≤ tt, lit≤ tt) c.word.result c.word.ensures in
    let b = told_word E 3 10 (lit≤ tt, lit≤ tt, lit≤ tt) c.word-2.result c.word-2.ensures in
    let d = told_word E 7 10 (lit≤ tt, lit≤ tt, lit≤ tt) c.word-3.result c.word-3.ensures in
    let e = told_word R 1 1 (lit≤ tt, lit≤ tt, lit≤ tt) c.word-4.result c.word-4.ensures in
    let f = told_word E 1 1 (lit≤ tt, lit≤ tt, lit≤ tt) c.word-5.result c.word-5.ensures in
    (λ i. a i ∷ b i ∷ d i ∷ e i ∷ f i ∷ []) ∙ words_are
