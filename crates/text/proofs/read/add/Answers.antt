use Rattle.std.proofs.Common.{◌≡◌, List, map, length, Ok, Err, sym, refl, ap, ◌∙◌, arith, rules}
use lib.ListN.{length-map}
use Rattle.std.proofs.lemmas.Result.{err_from_is_err_and}
use Rattle.tasks.specs.Rows.{row_of}
use Rattle.tasks.specs.Tables.{lines_of, Pushed}
use Rattle.tasks.specs.declared.line.Line.{Line}
use Rattle.tasks.specs.declared.tables.Unfit.TheVariants.{NameUsed, PeriodFalls}
use Rattle.text.specs.Layers.{part_of, nine}
use Rattle.text.proofs.Tables.{by_fields, pushed, name_used, period_falls}
use Rattle.text.proofs.read.add.Goals as goal

pub returns-in_err-read : goal.returns-in_err-read
returns-in_err-read c =
    let ls = lines_of c.args.table.now in
    let l = part_of c.args.text in
    let size : length c.lines-count.result.now ≡ length ls = ap length c.lines-count.ensures.is in
    let p = err_from_is_err_and c.from_residual-in_err-read.result c.from_residual-in_err-read.ensures.1 in
    let f = c.in_ok-fields.ensures c.requires in
    rw (p.1, p.2)
    (by_fields (map row_of ls) l (nine c.in_ok-fields.fields) f.1.0 c.in_ok-fields.fields.number (omega (arith, f.1.1, length-map ls row_of)) (omega (arith, f.1.1)) refl _ c.in_err-read.ensures)

pub returns-in-Ok : goal.returns-in-Ok
returns-in-Ok c =
    let ls = lines_of c.args.table.now in
    let l = part_of c.args.text in
    let size : length c.lines-count.result.now ≡ length ls = ap length c.lines-count.ensures.is in
    let f = c.in_ok-fields.ensures c.requires in
    let x = c.in_ok-read.ensures in
    let p = c.in-Ok.ensures in
    pushed ls l (nine c.in_ok-fields.fields) f.1.0 c.in_ok-fields.fields.number (omega (arith, f.1.1)) (omega (arith, f.1.1)) refl x.0 c.in_ok-read.read x.1 p.1 p.2
    ∙ ap (λ (ys : List Line). Ok (map row_of ys)) (sym p.3)

pub returns-in-Err-NameUsed : goal.returns-in-Err-NameUsed
returns-in-Err-NameUsed c =
    let ls = lines_of c.args.table.now in
    let l = part_of c.args.text in
    let size : length c.lines-count.result.now ≡ length ls = ap length c.lines-count.ensures.is in
    let f = c.in_ok-fields.ensures c.requires in
    let x = c.in_ok-read.ensures in
    let p : Pushed c.args.table.now c.in_ok-read.read (Err NameUsed) c.push.new.self = search rules in
    name_used ls l (nine c.in_ok-fields.fields) f.1.0 c.in_ok-fields.fields.number (omega (arith, f.1.1)) (omega (arith, f.1.1)) refl x.0 c.in_ok-read.read x.1 p.2

pub returns-in-Err-PeriodFalls : goal.returns-in-Err-PeriodFalls
returns-in-Err-PeriodFalls c =
    let ls = lines_of c.args.table.now in
    let l = part_of c.args.text in
    let size : length c.lines-count.result.now ≡ length ls = ap length c.lines-count.ensures.is in
    let f = c.in_ok-fields.ensures c.requires in
    let x = c.in_ok-read.ensures in
    let p : Pushed c.args.table.now c.in_ok-read.read (Err PeriodFalls) c.push.new.self = search rules in
    period_falls ls l (nine c.in_ok-fields.fields) f.1.0 c.in_ok-fields.fields.number (omega (arith, f.1.1)) (omega (arith, f.1.1)) refl x.0 c.in_ok-read.read x.1 p.2 p.3
