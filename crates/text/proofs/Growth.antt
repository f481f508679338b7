-- The lines of a table, added one by one.
use Rattle.std.proofs.Common.{◌≡◌, ℕ, suc, ◌-◌, ◌<◌, ◌≤◌, List, [], ◌∷◌, ◌++◌, map, length, get_or, take, sym, ap, ◌∙◌, subst, ⊎_elim, append_assoc, arith, length-append, length-take}
use lib.ListN.{length-map}
use Rattle.std.proofs.lemmas.List.{map-append, get_or_append_left, get_or_at, get_or-take, take-map, get_or_past}
use Rattle.std.proofs.lemmas.Bool.{cases_lt}
use Rattle.tasks.specs.Lines.{names, periods}
use Rattle.tasks.specs.Named.{name_bytes}
use Rattle.tasks.specs.Tables.{lines_of, Used, last_period}
use Rattle.tasks.specs.declared.line.Line.{Line}
use Rattle.tasks.specs.declared.table.Table.{Table}

-- each of the lines can be added, in order, after the lines up
abbrev pub Fit : List Line → List Line → Type 0
Fit up [] = Unit {0}
Fit up (l ∷ ls) = (length up < 32) × (Used (name_bytes l.name) up → ⊥) × (last_period up ≤ l.period) × Fit (up ++ (l ∷ [])) ls

abbrev Rising : List Line → Type 0
Rising ls = (i : ℕ) → suc i < length ls → get_or (periods ls) i 0 ≤ get_or (periods ls) (suc i) 0

abbrev Apart : List Line → Type 0
Apart ls = (i j : ℕ) → i < j → j < length ls → get_or (names ls) i [] ≡ get_or (names ls) j [] → ⊥

module _ {X : Type 0} (f : Line → X) (d : X) (up : List Line) (l : Line) (ls : List Line) where
  below : (i : ℕ) → i < length up → get_or (map f (up ++ (l ∷ ls))) i d ≡ get_or (map f up) i d
  below i h = ap (λ xs. get_or xs i d) (map-append f up (l ∷ ls)) ∙ get_or_append_left (map f up) (map f (l ∷ ls)) d i (omega (arith, length-map up f))

  here : get_or (map f (up ++ (l ∷ ls))) (length up) d ≡ f l
  here = ap (λ xs. get_or xs (length up) d) (map-append f up (l ∷ ls)) ∙ get_or_at (map f up) (f l) (map f ls) d (length up) (length-map up f)

module _ (up : List Line) (l : Line) (ls : List Line) where
  new_name : Apart (up ++ (l ∷ ls)) → Used (name_bytes l.name) up → ⊥
  new_name apart u =
      let name : Line → List ℕ = λ (y : Line). name_bytes y.name in
      apart u.0 (length up) u.1 (omega (arith, length-append up (l ∷ ls))) (below name [] up l ls u.0 u.1 ∙ u.2 ∙ sym (here name [] up l ls))

  no_fall : Rising (up ++ (l ∷ ls)) → last_period up ≤ l.period
  no_fall rising =
      let period : Line → ℕ = λ (y : Line). y.period in
      ⊎_elim
      (λ (some : 0 < length up).
      let i = length up - 1 in
      let next : suc i ≡ length up = omega arith in
      omega (arith, rising i (omega (arith, length-append up (l ∷ ls))), below period 0 up l ls i (omega arith), ap (λ x. get_or (periods (up ++ (l ∷ ls))) x 0) next, here period 0 up l ls))
      (λ (none : length up ≤ 0). omega (arith, get_or_past (periods up) (length up - 1) 0 (omega (arith, length-map up period))))
      (cases_lt 0 (length up))

fit_from : (up ls : List Line) → length (up ++ ls) ≤ 32 → Rising (up ++ ls) → Apart (up ++ ls) → Fit up ls
fit_from up [] few rising apart = tt
fit_from up (l ∷ ls) few rising apart =
    let e = append_assoc up (l ∷ []) ls in (
      omega (arith, length-append up (l ∷ ls)),
      new_name up l ls apart,
      no_fall up l ls rising,
      fit_from (up ++ (l ∷ [])) ls (omega (arith, ap length e)) (subst (λ xs. Rising xs) (sym e) rising) (subst (λ xs. Apart xs) (sym e) apart),
    )

-- the lines of a table can be added to none
pub table_fits : (t : Table) → Fit [] (lines_of t)
table_fits t =
    let n = t.len in
    let ls = t.lines in
    let size = length-take n ls in
    let period : Line → ℕ = λ (y : Line). y.period in
    let name : Line → List ℕ = λ (y : Line). name_bytes y.name in
    let p : (i : ℕ) → i < n → get_or (periods (take n ls)) i 0 ≡ get_or (periods ls) i 0 = λ i h. ap (λ xs. get_or xs i 0) (sym (take-map period n ls)) ∙ get_or-take n (periods ls) i 0 h in
    let q : (i : ℕ) → i < n → get_or (names (take n ls)) i [] ≡ get_or (names ls) i [] = λ i h. ap (λ xs. get_or xs i []) (sym (take-map name n ls)) ∙ get_or-take n (names ls) i [] h in
    fit_from [] (take n ls) (omega (arith, t.few))
    (λ i h. omega (arith, t.rising i (omega arith), p i (omega arith), p (suc i) (omega arith)))
    (λ i j l h e. t.apart i j l (omega arith) (sym (q i (omega arith)) ∙ e ∙ q j (omega arith)))
