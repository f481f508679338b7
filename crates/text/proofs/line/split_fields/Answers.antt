use Rattle.std.proofs.Common.{◌≡◌, length, refl, arith}
use Rattle.std.proofs.lemmas.Bool.{eq-eqb, ne_eqb}
use Rattle.text.specs.Cuts.{count, fields_in}
use Rattle.text.specs.Layers.{part_of}
use Rattle.text.proofs.Cutting.{count_is, no_mark, length_parted, chain}
use Rattle.text.proofs.line.split_fields.Goals as goal

pub returns-then-marks-ne8 : goal.returns-then-marks-ne8
returns-then-marks-ne8 c =
    let bs = c.args.text.bytes.now in
    λ _. (ne_eqb (length (fields_in (part_of c.args.text))) 9 (λ e. c.if-marks-ne8.true (omega (arith, e, length_parted 44 c.args.text.place bs, c.marks.ensures, count_is 44 bs))), refl)

pub returns : goal.returns
returns c =
    λ h.
    let bs = c.args.text.bytes.now in
    let eight : count 44 bs ≡ 8 = omega (arith, c.marks.ensures, count_is 44 bs, c.if-marks-ne8.false) in
    let k1 = c.cut.ensures h in
    let n1 : count 44 c.cut.result.1.bytes.now ≡ 7 = omega (arith, k1.left (omega arith)) in
    let k2 = c.cut-2.ensures (omega (arith, k1.within)) in
    let n2 : count 44 c.cut-2.result.1.bytes.now ≡ 6 = omega (arith, k2.left (omega arith)) in
    let k3 = c.cut-3.ensures (omega (arith, k1.within, k2.within)) in
    let n3 : count 44 c.cut-3.result.1.bytes.now ≡ 5 = omega (arith, k3.left (omega arith)) in
    let k4 = c.cut-4.ensures (omega (arith, k1.within, k2.within, k3.within)) in
    let n4 : count 44 c.cut-4.result.1.bytes.now ≡ 4 = omega (arith, k4.left (omega arith)) in
    let k5 = c.cut-5.ensures (omega (arith, k1.within, k2.within, k3.within, k4.within)) in
    let n5 : count 44 c.cut-5.result.1.bytes.now ≡ 3 = omega (arith, k5.left (omega arith)) in
    let k6 = c.cut-6.ensures (omega (arith, k1.within, k2.within, k3.within, k4.within, k5.within)) in
    let n6 : count 44 c.cut-6.result.1.bytes.now ≡ 2 = omega (arith, k6.left (omega arith)) in
    let k7 = c.cut-7.ensures (omega (arith, k1.within, k2.within, k3.within, k4.within, k5.within, k6.within)) in
    let n7 : count 44 c.cut-7.result.1.bytes.now ≡ 1 = omega (arith, k7.left (omega arith)) in
    let k8 = c.cut-8.ensures (omega (arith, k1.within, k2.within, k3.within, k4.within, k5.within, k6.within, k7.within)) in
    let n8 : count 44 c.cut-8.result.1.bytes.now ≡ 0 = omega (arith, k8.left (omega arith)) in
    let last = (no_mark 44 c.cut-8.result.1.place c.cut-8.result.1.bytes.now n8).0 in (
      eq-eqb (length (fields_in (part_of c.args.text))) 9 (omega (arith, length_parted 44 c.args.text.place bs)),
      (chain (k1.fields (omega arith)) (chain (k2.fields (omega arith)) (chain (k3.fields (omega arith)) (chain (k4.fields (omega arith)) (chain (k5.fields (omega arith)) (chain (k6.fields (omega arith)) (chain (k7.fields (omega arith)) (chain (k8.fields (omega arith)) last))))))), refl),
    )
