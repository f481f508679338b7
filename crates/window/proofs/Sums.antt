-- Sums over the first places, and facts told place by place.
use Rattle.std.proofs.Common.{◌≡◌, ℕ, zero, suc, ◌+◌, ◌<◌, ◌≤◌, ◌≢◌, List, length, get_or, take, sum_by, sym, refl, subst, ⊎_elim, add-one, arith}
use Rattle.std.proofs.lemmas.List.Sums.{sum_by_more}
use Rattle.std.proofs.lemmas.Bool.{cases_eq}
use Rattle.window.proofs.Pending.{upto}

-- what is at most at each place is at most in the sums
pub shift : (n : ℕ) (a b c d : ℕ → ℕ) → ((h : ℕ) → h < n → a h + b h ≤ c h + d h) → upto n a + upto n b ≤ upto n c + upto n d
shift zero a b c d each = omega arith
shift (suc n) a b c d each =
    let ih = shift n a b c d (λ h l. each h (omega arith)) in
    let top = each n (omega arith) in
    omega arith

-- and where the place j gains one, so do the sums
pub shift_one : (n : ℕ) (a b c d : ℕ → ℕ) (j : ℕ) → j < n → ((h : ℕ) → h < n → a h + b h ≤ c h + d h) → 1 + (a j + b j) ≤ c j + d j → 1 + (upto n a + upto n b) ≤ upto n c + upto n d
shift_one zero a b c d j l each one = omega arith
shift_one (suc n) a b c d j l each one =
    let low : (h : ℕ) → h < n → a h + b h ≤ c h + d h = λ h k. each h (omega arith) in
    ⊎_elim
    (λ (e : n ≡ j).
    let top : 1 + (a n + b n) ≤ c n + d n = rw e one in
    let ih = shift n a b c d low in
    omega arith)
    (λ (ne : n ≡ j → ⊥).
    let top = each n (omega arith) in
    let ih = shift_one n a b c d j (omega arith) low one in
    omega arith)
    (cases_eq n j)

-- a sum of zeros is 0
pub upto_zero : (n : ℕ) (f : ℕ → ℕ) → ((h : ℕ) → h < n → f h ≡ 0) → upto n f ≡ 0
upto_zero zero f each = refl
upto_zero (suc n) f each =
    let ih = upto_zero n f (λ h l. each h (omega arith)) in
    let top = each n (omega arith) in
    omega arith

-- where a sum is 0, so is each place
pub upto_none : (n : ℕ) (f : ℕ → ℕ) → upto n f ≡ 0 → (h : ℕ) → h < n → f h ≡ 0
upto_none zero f e h l = omega arith
upto_none (suc n) f e h l = ⊎_elim (λ (s : h ≡ n). rw s (omega arith)) (λ (ne : h ≡ n → ⊥). upto_none n f (omega arith) h (omega arith)) (cases_eq h n)

-- what holds at the place j and at every other holds everywhere
pub by_place : (P : ℕ → Type 0) (j : ℕ) → P j → ((h : ℕ) → h ≢ j → P h) → (h : ℕ) → P h
by_place P j here others h = ⊎_elim (λ (e : h ≡ j). subst P (sym e) here) (others h) (cases_eq h j)

-- the sum over the front of a list
pub sum_upto : {X : Type 0} (f : X → ℕ) (xs : List X) (d : X) (i : ℕ) → i ≤ length xs → sum_by f (take i xs) ≡ upto i (λ h. f (get_or xs h d))
sum_upto f xs d zero l = refl
sum_upto f xs d (suc i) l =
    let ih = sum_upto f xs d i (omega arith) in
    let more = sum_by_more f xs i d l in
    omega (arith, rw add-one at more)
