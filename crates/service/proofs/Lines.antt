-- Lines by their numbers, and functions changed at one number.
use Rattle.std.proofs.Common.{◌≡◌, ℕ, suc, ◌<◌, ◌≢◌, List, [], ◌∷◌, length, get_or, arith}
use Rattle.std.proofs.lemmas.Grind.{common_steps}
use Rattle.std.proofs.lemmas.Bool.Decides.{nat_tests}
use Rattle.tasks.specs.declared.line.Line.{Line}
use Rattle.tasks.specs.Tables.{IsLine, Numbered}
use Rattle.engine.specs.Status.{put}

-- the line with the number i + 1 stands at the place i
pub at_place : (ls : List Line) (i : ℕ) (l d : Line) → Numbered ls (suc i) l → (i < length ls) × (l ≡ get_or ls i d)
at_place ls i l d named = grind (arith, common_steps)

-- some line, where there is one
pub some_line : (ls : List Line) (n : ℕ) → IsLine ls n → Line
some_line [] n h = absurd (omega (arith, h.0, h.1))
some_line (l ∷ ls) n h = l

module _ {A : Type 0} (n : ℕ) (x : A) (f : ℕ → A) where
  pub put_here : put n x f n ≡ x
  put_here = grind (arith, nat_tests)

  pub put_there : (k : ℕ) → k ≢ n → put n x f k ≡ f k
  put_there k ne = grind (arith, nat_tests)

-- nothing changed
put_same_at : {A : Type 0} (n k : ℕ) (f : ℕ → A) → put n (f n) f k ≡ f k
put_same_at n k f = grind (arith, nat_tests)

pub put_same : {A : Type 0} (n : ℕ) (f : ℕ → A) → put n (f n) f ≡ f
put_same n f = λ i k. put_same_at n k f i
