use Rattle.std.proofs.Common.{eqb, leb, length, sym}
use Rattle.std.proofs.lemmas.Bool.{and_parts, leb-true}
use Rattle.text.specs.Cuts.{last_byte}
use Rattle.text.proofs.Readings.{loaded, refused_text}
use Rattle.text.proofs.read.load.Goals as goal

pub returns-then-not-is_text : goal.returns-then-not-is_text
returns-then-not-is_text c = refused_text c.args.text.now (sym c.if-not-is_text.ensures)

pub returns : goal.returns
returns c =
    let bs = c.args.text.now in
    let p = and_parts (leb (length bs) 8192) (eqb (last_byte bs) 10) (sym c.if-not-is_text.ensures) in
    loaded bs (leb-true (length bs) 8192 p.0) p.1 c.fill.result c.fill.new.table c.fill.ensures
