-- What the figures of lines answer, from the figure of each line.
use Rattle.std.proofs.Common.{◌≡◌, ℕ, zero, suc, ◌-◌, ◌<◌, ◌≤◌, Bool, true, List, [], ◌∷◌, ◌++◌, length, get_or, take, replicate, Ok, Decides, sym, subst, append_assoc, append-nil, arith, length-append}
use lib.ListN.{length-replicate}
use Rattle.std.proofs.lemmas.Grind.{common_steps}
use Rattle.tasks.specs.declared.line.Line.{Line}
use Rattle.response.specs.Figures.{Figure, Admitted, Answered, worked_out}
use Rattle.report.specs.Answer.{takes, demand}

-- each of the lines below these is taken, and has its figure
abbrev pub Each : List Line → List Line → List ℕ → Type 0
Each above [] fs = Unit {0}
Each above (l ∷ ls) [] = ⊥
Each above (l ∷ ls) (f ∷ fs) = (takes l ≡ true) × Figure demand above l f × Each (above ++ (l ∷ [])) ls fs

-- no figure is 0
abbrev pub NoneZero : List ℕ → Type 0
NoneZero [] = Unit {0}
NoneZero (f ∷ fs) = (1 ≤ f) × NoneZero fs

module _ (pad : List ℕ) where
  each_at : (above ls : List Line) (fs : List ℕ) → Each above ls fs → (i : ℕ) → i < length ls → (d : Line) → (takes (get_or ls i d) ≡ true) × Figure demand (above ++ take i ls) (get_or ls i d) (get_or (fs ++ pad) i 0)
  each_at above [] fs e i h d = absurd (omega arith)
  each_at above (l ∷ ls) [] e i h d = absurd e
  each_at above (l ∷ ls) (f ∷ fs) e zero h d = (e.0, subst (λ (xs : List Line). Figure demand xs l f) (sym (append-nil above)) e.1)
  each_at above (l ∷ ls) (f ∷ fs) e (suc i) h d =
      let z = each_at (above ++ (l ∷ [])) ls fs e.2 i (omega arith) d in
      (z.0, subst (λ (xs : List Line). Figure demand xs (get_or ls i d) (get_or (fs ++ pad) i 0)) (append_assoc above (l ∷ []) (take i ls)) z.1)

  pub some_at : (fs : List ℕ) → NoneZero fs → (i : ℕ) → i < length fs → 1 ≤ get_or (fs ++ pad) i 0
  some_at [] e i h = absurd (omega arith)
  some_at (f ∷ fs) e zero h = e.0
  some_at (f ∷ fs) e (suc i) h = some_at fs e.1 i (omega arith)

-- 32 places
abbrev pub placed : List ℕ → List ℕ
placed fs = fs ++ replicate (32 - length fs) 0

past_last : (fs : List ℕ) (n i : ℕ) → length fs ≤ i → get_or (fs ++ replicate n 0) i 0 ≡ 0
past_last fs n i h = grind (arith, common_steps)

pub worked : (ls : List Line) (fs : List ℕ) (v : Bool) → 1 ≤ length ls → length ls ≤ 32 → length fs ≡ length ls → Each [] ls fs → Decides v (Admitted (length ls) (placed fs)) → Answered takes demand ls (placed fs) (Ok v)
worked ls fs v some few same each decides =
    let pad : List ℕ = replicate (32 - length fs) 0 in
    let size : length (placed fs) ≡ 32 = omega (arith, length-append fs pad, length-replicate {A = ℕ} (32 - length fs) 0) in
    let at = each_at pad [] ls fs each in
    worked_out some (λ i d h. (at i h d).0) (record { size = size; each = λ i h d. (at i h d).1; past = λ i h. past_last fs (32 - length fs) i (omega arith) }) decides
