-- What a reading answers, as a law of tables written out.
use Rattle.std.proofs.Common.{◌≡◌, ℕ, List, Ok, Err, Result}
use Rattle.tasks.specs.Rows.{rows_of}
use Rattle.tasks.specs.declared.refusal.Refusal.{Refusal}
use Rattle.tasks.specs.declared.table.Table.{Table}
use Rattle.text.specs.Reading.{reading, Reads}
use Rattle.text.specs.Law.{IsTextOf, Accepts}
use Rattle.text.proofs.Sound.{sound}
use Rattle.text.proofs.Whole.{whole}

refused : (text : List ℕ) (e : Refusal) → reading text ≡ Err e → (t : Table) → IsTextOf text t → ⊥
refused text e h t s = let c = whole text t s in cc

that_one : (text : List ℕ) (t u : Table) → reading text ≡ Ok (rows_of u) → IsTextOf text t → rows_of t ≡ rows_of u
that_one text t u h s = let c = whole text t s in cc

pub accepts : (text : List ℕ) (r : Result Unit Refusal) (u : Table) → Reads text r u → Accepts text r u
accepts text (Ok x) u h = (sound text u h, λ t s. that_one text t u h s)
accepts text (Err e) u h = refused text e h.0
