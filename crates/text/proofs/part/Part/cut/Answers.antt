use Rattle.std.proofs.Common.{◌+◌, refl, arith}
use Rattle.std.proofs.lemmas.List.{take_rest}
use Rattle.text.proofs.Cutting.{first_is, cut_marked, cut_unmarked}
use Rattle.text.proofs.part.Part.cut.Goals as goal

pub returns-in-Some : goal.returns-in-Some
returns-in-Some c =
    let at = first_is c.args.mark c.args.self.bytes.now _ c.in-Some.ensures in
    λ h. cut_marked c.args.mark c.args.self.place c.in-Some.at c.saturating_add.result c.args.self.bytes.now _ _ at.0 at.1 refl (take_rest c.args.self.bytes.now (c.in-Some.at + 1)) (omega (arith, at.1, c.saturating_add.ensures))

pub returns-in-None : goal.returns-in-None
returns-in-None c =
    λ h. cut_unmarked c.args.mark c.args.self.place c.saturating_add-in-None.result c.args.self.bytes.now (first_is c.args.mark c.args.self.bytes.now _ c.in-None.ensures) (omega (arith, c.saturating_add-in-None.ensures))
