use Rattle.std.proofs.Common.{◌≡◌, ◌+◌, drop, sym, ap, ◌∙◌, subst, arith}
use Rattle.std.proofs.lemmas.List.{drop-drop}
use Rattle.text.specs.Layers.{part_of, lines_left}
use Rattle.transcript.specs.Scripts.{FirstParts}
use Rattle.transcript.proofs.Compared.{same, apart}
use Rattle.transcript.proofs.Parting.{Left, found, stop_within, others_left, none_left}
use Rattle.transcript.proofs.script.split_script.Goals as goal

pub split_at-requires : goal.split_at-requires
split_at-requires c =
    let l = subst (Left c.args.text.now) c.in-Some.ensures.steps c.loop-line.invariant in
    omega (arith, stop_within c.args.text.now _ _ l (same _ _ _ c.if-eq.ensures c.as_slice.ensures))

pub split_at-requires-then-eq : goal.split_at-requires-then-eq
split_at-requires-then-eq c =
    let l = subst (Left c.args.text.now) c.in-Some.ensures.steps c.loop-line.invariant in
    omega (arith, stop_within c.args.text.now _ _ l (same _ _ _ c.if-eq.ensures c.as_slice.ensures), c.split_at.ensures.back_len)

pub returns-then-eq : goal.returns-then-eq
returns-then-eq c =
    let text = c.args.text.now in
    let place = c.in-Some.line.place in
    let l = subst (Left text) c.in-Some.ensures.steps c.loop-line.invariant in
    let rest : c.split_at-then-eq.result.1.now ≡ drop (place + 2) text = c.split_at-then-eq.ensures.back ∙ ap (drop 2) c.split_at.ensures.back ∙ drop-drop 2 place text in
    let f = found text _ _ l (same _ _ _ c.if-eq.ensures c.as_slice.ensures) in
    subst (λ s. FirstParts text c.split_at.result.0.now s) (sym rest) (subst (λ s. FirstParts text s (drop (place + 2) text)) (sym c.split_at.ensures.front) f)

pub loop-line-preserved : goal.loop-line-preserved
loop-line-preserved c =
    let l = subst (Left c.args.text.now) c.in-Some.ensures.steps c.loop-line.invariant in
    others_left c.args.text.now (part_of c.in-Some.line) (lines_left c.next.new.self) l
    (apart _ _ _ c.if-eq.ensures c.as_slice.ensures)

pub returns : goal.returns
returns c = none_left c.args.text.now (subst (Left c.args.text.now) c.in-None.ensures.steps.0 c.loop-line.invariant)
