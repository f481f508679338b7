use Rattle.std.proofs.Common.{◌≡◌, ◌+◌, drop, sym, ap, ◌∙◌, subst}
use Rattle.std.proofs.lemmas.List.{take_rest}
use Rattle.text.proofs.Cutting.{first_is}
use Rattle.text.specs.Values.{number_of}
use Rattle.transcript.specs.Calls.{Numeral}
use Rattle.transcript.proofs.Saying.{rest_is, some_space, cut_line}
use Rattle.transcript.proofs.call.word_and_number.Goals as goal

pub returns-in_err-number : goal.returns-in_err-number
returns-in_err-number c =
    let line = c.args.line.now in
    let at = first_is 32 line _ c.in_ok-space.ensures in
    rw c.from_residual-in_err-number.ensures
    (λ word n lacks f.
    c.in_err-number.ensures (subst Numeral (sym (take_rest line (c.in_ok-space.space + 1) ∙ ap (λ i. drop (i + 1) line) at.0 ∙ rest_is line word lacks n f)) f.2))

pub returns-in_err-space : goal.returns-in_err-space
returns-in_err-space c =
    let line = c.args.line.now in
    let none = first_is 32 line _ c.in_err-space.ensures in
    rw c.from_residual.ensures (λ word n lacks f. some_space line word n f none)

pub returns : goal.returns
returns c =
    let line = c.args.line.now in
    let at = first_is 32 line _ c.in_ok-space.ensures in
    cut_line line c.in_ok-space.space at.0 at.1 c.in_ok-number.field-0 (subst (λ ds. Numeral ds × (c.in_ok-number.field-0 ≡ number_of ds)) (take_rest line (c.in_ok-space.space + 1)) c.in_ok-number.ensures)
