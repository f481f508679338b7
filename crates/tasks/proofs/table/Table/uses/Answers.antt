use Rattle.std.proofs.Common.{Bool, rules, tests}
use Rattle.std.specs.List.{list_any}
use Rattle.std.specs.Str.{bytes_eq}
use Rattle.std.proofs.lemmas.Iterator.{YieldsList-from_slice}
use Rattle.std.proofs.lemmas.Iterator.Search.{any_from_yields_List}
use Rattle.std.proofs.lemmas.Bool.Decides.{Decides-at}
use Rattle.tasks.specs.declared.line.Line.{Line}
use Rattle.tasks.specs.Named.{name_bytes}
use Rattle.tasks.specs.Tables.{lines_of}
use Rattle.tasks.proofs.Growing.{Decides-used}
use Rattle.tasks.proofs.table.Table.uses.Goals as goal

pub returns : goal.returns
returns c =
    let ls = lines_of c.args.self.now in
    let x = name_bytes c.args.name.now in
    let test : Line → Bool = λ l. bytes_eq (name_bytes l.name) x in
    Decides-at c.any.result (list_any test ls) (any_from_yields_List test _ _ c.any.result c.any.ensures.ran (YieldsList-from_slice ls (search rules)) (λ y b q k. search (rules, tests))) (Decides-used x ls)
