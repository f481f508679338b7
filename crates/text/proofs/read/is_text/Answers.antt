use Rattle.std.proofs.Common.{◌≡◌, ◌-◌, ◌&&◌, false, eqb, leb, length, get_or, sym, ◌∙◌, arith, rules}
use Rattle.std.proofs.lemmas.Bool.{eq-eqb, ne_eqb, le-leb, and_from}
use Rattle.text.specs.Cuts.{last_byte}
use Rattle.text.proofs.Steps.{last_is}
use Rattle.text.proofs.read.is_text.Goals as goal

pub returns-in-10 : goal.returns-in-10
returns-in-10 c =
    let bs = c.args.text.now in
    let e : get_or bs (length bs - 1) 0 ≡ 10 = search rules in
    sym (and_from (leb (length bs) 8192) (eqb (last_byte bs) 10) (le-leb (length bs) 8192 (omega arith)) (eq-eqb _ 10 (last_is bs ∙ e)))

pub returns-in_default-2 : goal.returns-in_default-2
returns-in_default-2 c =
    let bs = c.args.text.now in
    let n : get_or bs (length bs - 1) 0 ≡ 10 → ⊥ = search rules in
    let e : eqb (last_byte bs) 10 ≡ false = ne_eqb _ 10 (λ z. n (sym (last_is bs) ∙ z)) in
    let fits = le-leb (length bs) 8192 (omega arith) in
    (λ i. sym fits i && sym e i)
