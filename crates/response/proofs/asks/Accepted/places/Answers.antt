use Rattle.std.proofs.Common.{rules, ℕ, ◌≤◌, ◌<◌, ◌≡◌, take, length, get_or, ⊎_elim, arith}
use Rattle.std.proofs.lemmas.List.{get_or_past}
use Rattle.std.proofs.lemmas.Bool.{cases_lt}
use Rattle.tasks.specs.declared.line.Line.{Line}
use Rattle.response.specs.Figures.{Figure}
use Rattle.response.proofs.Places.{from_fn_places}
use Rattle.response.proofs.asks.Accepted.places.Goals as goal

pub returns : goal.returns
returns g c =
    let demand = g.P.Policy.demand c.args.self.now.policy.now in
    let ls = c.args.self.now.lines.now in
    let P : ℕ → ℕ → Type 0 = λ i r. ((l : Line) → i < length ls → Figure demand (take i ls) (get_or ls i l) r) × (length ls ≤ i → r ≡ 0) in
    let at = from_fn_places _ P _ (λ x r q k. search rules) c.from_fn.result 0 32 c.from_fn.ensures.items.each in
    record {
      size = c.from_fn.ensures.items.long;
      each = λ i h d. (at i (omega arith) (omega arith)).0 d h;
      past = λ i h. ⊎_elim (λ (k : i < 32). (at i (omega arith) (omega arith)).1 h) (λ (k : 32 ≤ i). get_or_past c.from_fn.result i 0 (omega (arith, c.from_fn.ensures.items.long))) (cases_lt i 32);
    }
