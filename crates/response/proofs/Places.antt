-- The places of figures, and demands that are kept: before they are filled, and as a closure fills them.
use Rattle.std.proofs.Common.{◌≡◌, ℕ, zero, suc, ◌+◌, ◌<◌, ◌≤◌, Bool, true, false, eqb, List, length, get_or, take, replicate, sym, refl, subst, ⊎_elim, arith}
use Rattle.std.specs.Prelude.{Decides, not}
use Rattle.std.specs.List.{IsAnyAnswer}
use Rattle.std.proofs.lemmas.Bool.{both_ways, cases_eq, eqb-true, eqb-false}
use Rattle.std.proofs.lemmas.List.{length-take, get_or-take}
use Rattle.std.specs.Fn.{Called}
use Rattle.std.specs.Array.{IsFromFnResultFrom}
use denote.Param.Members.{Mut}
use Rattle.tasks.specs.declared.line.Line.{Line}
use Rattle.response.specs.Figures.{Admitted, Cleared, Taken}
use Rattle.response.specs.Told.{unasked, Told, AllTold}

-- a list of one value again and again reads as that value, past its end too
replicate_reads : {A : Type 0} (a : A) (n i : ℕ) → get_or (replicate n a) i a ≡ a
replicate_reads a zero i = refl
replicate_reads a (suc n) zero = refl
replicate_reads a (suc n) (suc i) = replicate_reads a n i

pub cleared : Cleared (replicate 32 0)
cleared = (refl, λ i. replicate_reads 0 32 i)

-- before anything was asked
pub told_none : (takes : Line → Bool) (demand : Line → ℕ → ℕ) → ((l : Line) → takes l ≡ true → demand l 0 ≡ 0) → (above : List Line) → Taken takes above (length above) → AllTold demand above (replicate 32 unasked)
told_none takes demand nothing above taken i d h =
    subst (Told demand (get_or above i d)) (sym (replicate_reads unasked 32 i)) (sym (nothing (get_or above i d) (taken i d h)))

-- ---- an array made by a closure that no call changes
pub from_fn_places : {F : Type 0} (g : Mut F (ℕ × Unit {0}) ℕ) (P : ℕ → ℕ → Type 0) (f : F) → ((x r : ℕ) (q : F) → Called g f (x, tt) r q → (q ≡ f) × P x r) → (ys : List ℕ) (i n : ℕ) → IsFromFnResultFrom g f ys i n → (k : ℕ) → i ≤ k → k < i + n → P k (get_or ys k 0)
from_fn_places g P f gives ys i zero calls k low high = absurd (omega arith)
from_fn_places g P f gives ys i (suc n) calls k low high =
    let here = gives i calls.1 calls.0 calls.3 in
    ⊎_elim
    (λ (same : k ≡ i). rw (same, calls.2.1 0) here.1)
    (λ (other : k ≡ i → ⊥). from_fn_places g P f gives ys (i + 1) n (subst (λ h. IsFromFnResultFrom g h ys (i + 1) n) here.0 calls.4) k (omega arith) (omega arith))
    (cases_eq k i)

-- ---- whether some of the first n places holds 0
pub none_zero : (places : List ℕ) (n : ℕ) (r : Bool) → n ≤ length places → IsAnyAnswer (λ y b. eqb y 0 ≡ b) (take n places) r → Decides (not r) (Admitted n places)
none_zero places n true within zero_at =
    let size = length-take n places in
    let k = zero_at.0 in
    (λ f. absurd (both_ways false refl f), λ all. absurd (omega (arith, all k (omega (arith, zero_at.1)), eqb-true (get_or (take n places) k 0) 0 (zero_at.2 0), get_or-take n places k 0 (omega (arith, zero_at.1)))))
none_zero places n false within none =
    let size = length-take n places in
    (λ f i h. let other = eqb-false (get_or (take n places) i 0) 0 (none i 0 (omega arith) (omega arith)) in omega (arith, get_or-take n places i 0 h), λ all. refl)
