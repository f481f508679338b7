-- The load of the lines above never falls as time goes on, by what a policy promises.
use Rattle.std.proofs.Common.{◌≡◌, ℕ, suc, ◌+◌, ◌-◌, ◌≤◌, Bool, true, List, [], ◌∷◌, length, take, ap, ◌∙◌, le_trans, le-div_iff_mul-le, div-le_self, div-mul-le_self, arith}
use Rattle.std.proofs.lemmas.List.{length-take, get_or-take}
use Rattle.std.proofs.lemmas.List.Sums.{sum_by-cons}
use Rattle.words.specs.Patterns.{up}
use Rattle.tasks.specs.declared.line.Line.{Line}
use Rattle.policies.specs.Promises.{Rising}
use Rattle.response.specs.Figures.{jobs_by, load_above, Taken}

up_rises : (a b p : ℕ) → 1 ≤ p → a ≤ b → up a p ≤ up b p
up_rises a b p pos h = (le-div_iff_mul-le pos).1 (le_trans (div-mul-le_self (a + (p - 1)) p) (omega arith))

jobs_small : (h : Line) (t : ℕ) → t ≤ 1000000 → jobs_by h t ≤ 2000000
jobs_small h t k = omega (arith, div-le_self (t + (h.period - 1)) h.period, h.ordered)

-- the lines above one are taken too
pub taken_above : (takes : Line → Bool) (ls : List Line) (n : ℕ) → Taken takes ls (length ls) → Taken takes (take n ls) (length (take n ls))
taken_above takes ls n taken i d h =
    let size = length-take n ls in
    ap takes (get_or-take n ls i d (omega arith)) ∙ taken i d (omega arith)

pub load_rises : {takes : Line → Bool} {demand : Line → ℕ → ℕ} → ((l : Line) → takes l ≡ true → Rising (demand l)) → (above : List Line) (a b : ℕ) → Taken takes above (length above) → a ≤ b → b ≤ 1000000 → load_above demand above a ≤ load_above demand above b
load_rises rising [] a b taken h k = omega arith
load_rises {demand = demand} rising (x ∷ xs) a b taken h k =
    let small = jobs_small x b k in
    let here = rising x (taken 0 x (omega arith)) (jobs_by x a) (jobs_by x b) (up_rises a b x.period (omega (arith, x.ordered)) h) (omega arith) in
    omega (arith, here, load_rises rising xs a b (λ i d l. taken (suc i) d (omega arith)) h k, sum_by-cons (λ y. demand y (jobs_by y a)) x xs, sum_by-cons (λ y. demand y (jobs_by y b)) x xs)
