-- Runs, marks and costs of endings put one after the other.
use Rattle.std.proofs.Common.{◌≡◌, ℕ, ◌+◌, List, [], ◌∷◌, ◌++◌, refl, arith}
use Rattle.tasks.specs.declared.line.Line.{Line}
use Rattle.tasks.specs.declared.job.Plan.{Plan}
use Rattle.tasks.specs.declared.job.Ending.{Ending}
use Rattle.policies.specs.Endings.{Allows}
use Rattle.policies.specs.Runs.{Run, mark_after, costs}

-- the plan at each mark, and the mark after each ending
module _ (plan : ℕ → Plan) (next : ℕ → Ending → ℕ) where
  -- the later jobs cost what they cost from the mark reached
  pub costs_append : (l : Line) (q : ℕ) (xs ys : List Ending) → costs plan next l q (xs ++ ys) ≡ costs plan next l q xs + costs plan next l (mark_after plan next q xs) ys
  costs_append l q [] ys = omega arith
  costs_append l q (x ∷ xs) ys = omega (arith, costs_append l (next q x) xs ys)

  -- the mark goes on from the mark reached
  pub mark_append : (q : ℕ) (xs ys : List Ending) → mark_after plan next q (xs ++ ys) ≡ mark_after plan next (mark_after plan next q xs) ys
  mark_append q [] ys = refl
  mark_append q (x ∷ xs) ys = mark_append (next q x) xs ys

  -- the front of a run is a run
  pub run_prefix : (q : ℕ) (xs ys : List Ending) → Run plan next q (xs ++ ys) → Run plan next q xs
  run_prefix q [] ys r = tt
  run_prefix q (x ∷ xs) ys r = (r.0, run_prefix (next q x) xs ys r.1)

  -- a run goes on by an ending that the plan allows
  pub run_push : (q : ℕ) (xs : List Ending) (e : Ending) → Run plan next q xs → Allows (plan (mark_after plan next q xs)) e → Run plan next q (xs ++ e ∷ [])
  run_push q [] e r a = (a, tt)
  run_push q (x ∷ xs) e r a = (r.0, run_push (next q x) xs e r.1 a)
