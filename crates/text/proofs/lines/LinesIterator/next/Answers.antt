use Rattle.std.proofs.Common.{◌≡◌, ◌+◌, length, drop, refl, ap, sym, ◌∙◌, arith}
use Rattle.std.proofs.lemmas.List.{take_rest, drop-drop}
use Rattle.text.specs.Cuts.{closed}
use Rattle.text.specs.Layers.{lines_left}
use Rattle.text.proofs.Cutting.{first_is, closed_marked, closed_none}
use Rattle.text.proofs.lines.LinesIterator.next.Goals as goal

pub returns-in_err-end-clause-steps : goal.returns-in_err-end-clause-steps
returns-in_err-end-clause-steps c =
    let start = c.args.self.now.start in
    let text = c.args.self.now.text.now in
    let is : c.in_ok-rest.rest.now ≡ drop start text = c.in_ok-rest.ensures.lookup.0.2 ∙ take_rest text start in
    let none : lines_left c.args.self.now ≡ _ = ap (closed 10 start) (sym is) ∙ closed_none 10 start c.in_ok-rest.rest.now (first_is 10 c.in_ok-rest.rest.now _ c.in_err-end.ensures) in
    rw c.from_residual-in_err-end.ensures (none, none)

pub returns-clause-steps : goal.returns-clause-steps
returns-clause-steps c =
    let start = c.args.self.now.start in
    let text = c.args.self.now.text.now in
    let bs = c.in_ok-rest.rest.now in
    let end = c.in_ok-end.end in
    let is : bs ≡ drop start text = c.in_ok-rest.ensures.lookup.0.2 ∙ take_rest text start in
    let at = first_is 10 bs _ c.in_ok-end.ensures in
    let place : start + end + 1 ≡ start + (end + 1) = omega arith in
    let behind : drop (start + end + 1) text ≡ drop (end + 1) bs = ap (λ i. drop i text) place ∙ sym (drop-drop (end + 1) start text) ∙ ap (drop (end + 1)) (sym is) in
    ap (closed 10 start) (sym is) ∙ closed_marked 10 start end (start + end + 1) bs _ _ at.0 at.1 refl behind place

pub returns-clause-goes : goal.returns-clause-goes
returns-clause-goes c =
    record { on = λ _. (tt, tt, omega (arith, ap length (returns-clause-steps c))); keeps = tt; rests = λ _. tt }
