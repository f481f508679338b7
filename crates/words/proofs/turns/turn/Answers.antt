use Rattle.std.proofs.Common.{◌≡◌, ℕ, true, false, sym, ◌∙◌, subst, rules, tests}
use Rattle.std.proofs.lemmas.Iterator.{first_from_Range}
use Rattle.words.specs.Turns.{falls_at, turn_of, Rearranges}
use Rattle.words.proofs.Searches.{found_first}
use Rattle.words.proofs.TurnLemmas.{turn_rearranges}
use Rattle.words.proofs.turns.turn.Goals as goal

found : (c : goal.After-unwrap_or) → c.unwrap_or.result ≡ turn_of c.args.word c.args.k
unfolding turn_of
found c =
    let falls = falls_at c.args.word c.args.k in
    c.unwrap_or.ensures ∙ found_first falls c.args.k c.find.result (first_from_Range _ _ _ _ (λ j. falls j ≡ true) (λ j. falls j ≡ false) c.find.ensures.ran (λ x q k. search (rules, tests)) (λ x q k. search (rules, tests)))

pub returns : goal.returns
returns c = record { is = found c; rearranges = subst (λ (s : ℕ). Rearranges c.args.word c.args.k s) (sym (found c)) (turn_rearranges c.args.word c.args.k) }
