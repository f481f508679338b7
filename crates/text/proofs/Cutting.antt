-- Bytes cut at their first mark.
use Rattle.std.proofs.Common.{◌≡◌, ℕ, zero, suc, ◌+◌, ◌-◌, ◌<◌, ◌≤◌, Bool, true, false, cond, eqb, List, [], ◌∷◌, length, take, drop, sym, refl, ap, ◌∙◌, ⊎_elim, add-one, one-add, arith, length-drop, ltb, position, count_by, subst, Some, None, Option, MatchOption, ◌==◌}
use Rattle.std.specs.List.{position_or_len}
use Rattle.std.proofs.lemmas.List.{length-take-le}
use Rattle.std.proofs.lemmas.List.Recursion.{is_position_or_len, is_count_by}
use Rattle.std.proofs.lemmas.Bool.{cases_lt, ltb-true, ltb-false, eq-eqb, false≢true}
use Rattle.text.specs.Cuts.{Placed, placed, in_front, parted, ended, closed, lead, count, last_byte}
use Rattle.text.specs.Layers.{Cut}

-- ---- with a mark

record First (c p : ℕ) (bs : List ℕ) : Type 0 where
  within : lead c bs < length bs
  parts : parted c p bs ≡ placed p (take (lead c bs) bs) ∷ parted c (p + suc (lead c bs)) (drop (suc (lead c bs)) bs)
  marks : count c bs ≡ suc (count c (drop (suc (lead c bs)) bs))
  ends : ended c p bs ≡ placed p (take (lead c bs) bs) ∷ ended c (p + suc (lead c bs)) (drop (suc (lead c bs)) bs)

first_step : (t : Bool) (b c p : ℕ) (bs : List ℕ) → 1 ≤ cond t (suc (count c bs)) (count c bs) → (1 ≤ count c bs → First c (p + 1) bs) →
    (cond t 0 (suc (lead c bs)) < suc (length bs))
    × (cond t (placed p [] ∷ parted c (p + 1) bs) (in_front b p (parted c (p + 1) bs)) ≡ placed p (take (cond t 0 (suc (lead c bs))) (b ∷ bs)) ∷ parted c (p + suc (cond t 0 (suc (lead c bs)))) (drop (suc (cond t 0 (suc (lead c bs)))) (b ∷ bs)))
    × (cond t (suc (count c bs)) (count c bs) ≡ suc (count c (drop (suc (cond t 0 (suc (lead c bs)))) (b ∷ bs))))
    × (cond t (placed p [] ∷ ended c (p + 1) bs) (in_front b p (ended c (p + 1) bs)) ≡ placed p (take (cond t 0 (suc (lead c bs))) (b ∷ bs)) ∷ ended c (p + suc (cond t 0 (suc (lead c bs)))) (drop (suc (cond t 0 (suc (lead c bs)))) (b ∷ bs)))
first_step true b c p bs h ih = (omega arith, refl, refl, refl)
first_step false b c p bs h ih =
    let i = ih h in
    let e : p + 1 + suc (lead c bs) ≡ p + suc (suc (lead c bs)) = omega arith in (
      omega (arith, i.within),
      ap (in_front b p) i.parts ∙ ap (λ q. placed p (b ∷ take (lead c bs) bs) ∷ parted c q (drop (suc (lead c bs)) bs)) e,
      i.marks,
      ap (in_front b p) i.ends ∙ ap (λ q. placed p (b ∷ take (lead c bs) bs) ∷ ended c q (drop (suc (lead c bs)) bs)) e,
    )

first_at : (c p : ℕ) (bs : List ℕ) → 1 ≤ count c bs → First c p bs
first_at c p [] h = absurd (omega arith)
first_at c p (b ∷ bs) h =
    let s = first_step (eqb b c) b c p bs h (first_at c (p + 1) bs) in
    record { within = s.0; parts = s.1; marks = s.2; ends = s.3 }

-- ---- without a mark

-- bytes that are one part, unless there are none
abbrev pub alone : ℕ → List ℕ → List Placed
alone p [] = []
alone p (b ∷ bs) = placed p (b ∷ bs) ∷ []

alone_front : (b p q : ℕ) (bs : List ℕ) → in_front b p (alone q bs) ≡ placed p (b ∷ bs) ∷ []
alone_front b p q [] = refl
alone_front b p q (c ∷ bs) = refl

none_step : (t : Bool) (b c p : ℕ) (bs : List ℕ) → cond t (suc (count c bs)) (count c bs) ≡ 0 → (count c bs ≡ 0 → (parted c (p + 1) bs ≡ placed (p + 1) bs ∷ []) × (ended c (p + 1) bs ≡ alone (p + 1) bs)) →
    (cond t (placed p [] ∷ parted c (p + 1) bs) (in_front b p (parted c (p + 1) bs)) ≡ placed p (b ∷ bs) ∷ [])
    × (cond t (placed p [] ∷ ended c (p + 1) bs) (in_front b p (ended c (p + 1) bs)) ≡ placed p (b ∷ bs) ∷ [])
none_step true b c p bs h ih = absurd (omega arith)
none_step false b c p bs h ih = (ap (in_front b p) (ih h).0, ap (in_front b p) (ih h).1 ∙ alone_front b p (p + 1) bs)

pub no_mark : (c p : ℕ) (bs : List ℕ) → count c bs ≡ 0 → (parted c p bs ≡ placed p bs ∷ []) × (ended c p bs ≡ alone p bs)
no_mark c p [] h = (refl, refl)
no_mark c p (b ∷ bs) h = none_step (eqb b c) b c p bs h (no_mark c (p + 1) bs)

lead_step : (t : Bool) (c : ℕ) (bs : List ℕ) → cond t (suc (count c bs)) (count c bs) ≡ 0 → (count c bs ≡ 0 → lead c bs ≡ length bs) → cond t 0 (suc (lead c bs)) ≡ suc (length bs)
lead_step true c bs h ih = absurd (omega arith)
lead_step false c bs h ih = ap suc (ih h)

lead_none : (c : ℕ) (bs : List ℕ) → count c bs ≡ 0 → lead c bs ≡ length bs
lead_none c [] h = refl
lead_none c (b ∷ bs) h = lead_step (eqb b c) c bs h (lead_none c bs)

pub marked : (c : ℕ) (bs : List ℕ) → lead c bs < length bs → 1 ≤ count c bs
marked c bs h = ⊎_elim (λ (some : 0 < count c bs). some) (λ (none : count c bs ≤ 0). absurd (omega (arith, lead_none c bs (omega arith)))) (cases_lt 0 (count c bs))

pub unmarked : (c : ℕ) (bs : List ℕ) → length bs ≤ lead c bs → count c bs ≡ 0
unmarked c bs h = ⊎_elim (λ (some : 0 < count c bs). absurd (omega (arith, (first_at c 0 bs some).within))) (λ (none : count c bs ≤ 0). omega arith) (cases_lt 0 (count c bs))

-- ---- how many parts

length_in_front : (b p : ℕ) (qs : List Placed) → 1 ≤ length qs → length (in_front b p qs) ≡ length qs
length_in_front b p [] h = absurd (omega arith)
length_in_front b p (q ∷ qs) h = refl

length_step : (t : Bool) (b c p : ℕ) (bs : List ℕ) → length (parted c (p + 1) bs) ≡ suc (count c bs) → length (cond t (placed p [] ∷ parted c (p + 1) bs) (in_front b p (parted c (p + 1) bs))) ≡ suc (cond t (suc (count c bs)) (count c bs))
length_step true b c p bs ih = ap suc ih
length_step false b c p bs ih = length_in_front b p (parted c (p + 1) bs) (omega arith) ∙ ih

pub length_parted : (c p : ℕ) (bs : List ℕ) → length (parted c p bs) ≡ suc (count c bs)
length_parted c p [] = refl
length_parted c p (b ∷ bs) = length_step (eqb b c) b c p bs (length_parted c (p + 1) bs)

-- ---- as the code finds a mark, and counts them

lead_is : (c : ℕ) (bs : List ℕ) → lead c bs ≡ position_or_len (λ b. b == c) bs
lead_is c bs = is_position_or_len (lead c) (λ b. b == c) refl (λ b bs. ap (λ n. cond (b == c) 0 n) (sym (one-add (lead c bs)))) bs

found : (c : ℕ) (bs : List ℕ) (t : Bool) → ltb (lead c bs) (length bs) ≡ t → MatchOption (cond t (Some (lead c bs)) None) (count c bs ≡ 0) (λ at. (at ≡ lead c bs) × (at < length bs))
found c bs true e = (refl, ltb-true (lead c bs) (length bs) e)
found c bs false e = unmarked c bs (ltb-false (lead c bs) (length bs) e)

pub first_is : (c : ℕ) (bs : List ℕ) (r : Option ℕ) → r ≡ position (λ b. b == c) bs → MatchOption r (count c bs ≡ 0) (λ at. (at ≡ lead c bs) × (at < length bs))
first_is c bs r e =
    let at = lead_is c bs in
    subst (λ o. MatchOption o (count c bs ≡ 0) (λ at. (at ≡ lead c bs) × (at < length bs)))
    ((λ i. cond (ltb (at i) (length bs)) (Some (at i)) None) ∙ sym e)
    (found c bs (ltb (lead c bs) (length bs)) refl)

pub count_is : (c : ℕ) (bs : List ℕ) → count c bs ≡ count_by (λ b. b == c) bs
count_is c bs = is_count_by (count c) (λ b. b == c) refl (λ b bs. ap (λ n. cond (b == c) n (count c bs)) (sym (one-add (count c bs)))) bs

-- ---- as the code cuts

module _ (c p n q : ℕ) (bs front rest : List ℕ) (at : n ≡ lead c bs) (room : n < length bs) (front_is : front ≡ take n bs) (rest_is : rest ≡ drop (n + 1) bs) where
  behind : rest ≡ drop (suc (lead c bs)) bs
  behind = rest_is ∙ ap (λ i. drop i bs) (add-one n ∙ ap suc at)

  before : take (lead c bs) bs ≡ front
  before = ap (λ i. take i bs) (sym at) ∙ sym front_is

  pub cut_marked : q ≡ p + (n + 1) → Cut c (placed p bs) (placed p front) (placed q rest)
  cut_marked place_is =
      let k = first_at c p bs (marked c bs (omega arith)) in
      let place : p + suc (lead c bs) ≡ q = omega arith in
      let size : n + 1 + length rest ≡ length bs = omega (arith, ap length behind, length-drop (suc (lead c bs)) bs) in
      record {
        fields = λ _. k.parts ∙ (λ i. placed p (before i) ∷ parted c (place i) (sym behind i));
        left = λ _. k.marks ∙ sym (one-add (count c (drop (suc (lead c bs)) bs))) ∙ ap (λ r. 1 + count c r) (sym behind);
        lines = λ _. k.ends ∙ (λ i. placed p (before i) ∷ ended c (place i) (sym behind i));
        shorter = λ _. omega arith;
        within = omega arith;
        before = omega (arith, ap length front_is, length-take-le n bs (omega arith));
      }

  pub closed_marked : q ≡ p + (n + 1) → closed c p bs ≡ placed p front ∷ closed c q rest
  closed_marked place_is =
      let k = first_at c p bs (marked c bs (omega arith)) in
      let place : p + suc (lead c bs) ≡ q = omega arith in
      (λ i. take (k.marks i) (k.parts i)) ∙ (λ i. placed p (before i) ∷ take (count c (sym behind i)) (parted c (place i) (sym behind i)))

pub closed_none : (c p : ℕ) (bs : List ℕ) → count c bs ≡ 0 → closed c p bs ≡ []
closed_none c p bs none = ap (λ n. take n (parted c p bs)) none

pub cut_unmarked : (c p q : ℕ) (bs : List ℕ) → count c bs ≡ 0 → q ≡ p + length bs → Cut c (placed p bs) (placed p bs) (placed q [])
cut_unmarked c p q bs none at = record {
  fields = λ h. absurd (omega arith);
  left = λ h. absurd (omega arith);
  lines = λ h. (no_mark c p bs none).1 ∙ only bs h;
  shorter = λ h. omega arith;
  within = omega arith;
  before = omega arith;
}
  where
    only : (xs : List ℕ) → 1 ≤ length xs → alone p xs ≡ placed p xs ∷ []
    only [] l = absurd (omega arith)
    only (x ∷ xs) l = refl

-- ---- where parts stand

-- each part ends at place n at most
abbrev pub AllUpTo : ℕ → List Placed → Type 0
AllUpTo n [] = Unit {0}
AllUpTo n (q ∷ qs) = (q.place + length q.bytes ≤ n) × AllUpTo n qs

record From (p n : ℕ) (qs : List Placed) : Type 0 where
  first : Placed
  others : List Placed
  is : qs ≡ first ∷ others
  place : first.place ≡ p
  up : AllUpTo n qs

from_step : (t : Bool) (b p n : ℕ) (qs : List Placed) → p ≤ n → From (p + 1) n qs → From p n (cond t (placed p [] ∷ qs) (in_front b p qs))
from_step true b p n qs small f = record { first = placed p []; others = qs; is = refl; place = refl; up = (omega arith, f.up) }
from_step false b p n qs small f =
    let u = subst (AllUpTo n) f.is f.up in
    record {
      first = placed p (b ∷ f.first.bytes);
      others = f.others;
      is = ap (in_front b p) f.is;
      place = refl;
      up = subst (λ q. AllUpTo n (in_front b p q)) (sym f.is) (omega (arith, u.0, f.place), u.1);
    }

parted_from : (c p n : ℕ) (bs : List ℕ) → p + length bs ≤ n → From p n (parted c p bs)
parted_from c p n [] small = record { first = placed p []; others = []; is = refl; place = refl; up = (omega arith, tt) }
parted_from c p n (b ∷ bs) small = from_step (b == c) b p n (parted c (p + 1) bs) (omega arith) (parted_from c (p + 1) n bs (omega arith))

some_up : (n k : ℕ) (qs : List Placed) → AllUpTo n qs → AllUpTo n (take k qs)
some_up n zero qs u = tt
some_up n (suc k) [] u = tt
some_up n (suc k) (q ∷ qs) u = (u.0, some_up n k qs u.1)

pub closed_up : (c p n : ℕ) (bs : List ℕ) → p + length bs ≤ n → AllUpTo n (closed c p bs)
closed_up c p n bs small = some_up n (count c bs) (parted c p bs) (parted_from c p n bs small).up

-- ---- parts that end in a mark

closed_step : (t : Bool) (b c p n : ℕ) (qs : List Placed) (y : Placed) (ys : List Placed) → qs ≡ y ∷ ys →
    cond t (placed p [] ∷ take (suc n) qs) (in_front b p (take (suc n) qs)) ≡ take (cond t (suc (suc n)) (suc n)) (cond t (placed p [] ∷ qs) (in_front b p qs))
closed_step true b c p n qs y ys e = refl
closed_step false b c p n qs y ys e = ap (λ q. in_front b p (take (suc n) q)) e ∙ ap (λ q. take (suc n) (in_front b p q)) (sym e)

one_step : (t : Bool) (b c p : ℕ) → t ≡ true → cond t (placed p [] ∷ []) (in_front b p []) ≡ take (cond t 1 0) (cond t (placed p [] ∷ placed (p + 1) [] ∷ []) (in_front b p (placed (p + 1) [] ∷ [])))
one_step true b c p e = refl
one_step false b c p e = absurd (false≢true e)

some_marks : (c : ℕ) (bs : List ℕ) → 1 ≤ length bs → last_byte bs ≡ c → 1 ≤ count c bs
some_marks c [] h e = absurd (omega arith)
some_marks c (b ∷ []) h e = rw (eq-eqb b c e) (omega arith)
some_marks c (b ∷ d ∷ bs) h e = more (b == c) (count c (d ∷ bs)) (some_marks c (d ∷ bs) (omega arith) e)
  where
    more : (t : Bool) (n : ℕ) → 1 ≤ n → 1 ≤ cond t (suc n) n
    more true n l = omega arith
    more false n l = l

-- where a mark stands last, each part ends in one
pub ended_closed : (c p : ℕ) (bs : List ℕ) → last_byte bs ≡ c → ended c p bs ≡ closed c p bs
ended_closed c p [] e = refl
ended_closed c p (b ∷ []) e = one_step (b == c) b c p (eq-eqb b c e)
ended_closed c p (b ∷ d ∷ bs) e =
    let n = count c (d ∷ bs) - 1 in
    let marks : count c (d ∷ bs) ≡ suc n = omega (arith, some_marks c (d ∷ bs) (omega arith) e) in
    let q = parted_from c (p + 1) (p + 1 + length (d ∷ bs)) (d ∷ bs) (omega arith) in
    ap (λ x. cond (b == c) (placed p [] ∷ x) (in_front b p x)) (ended_closed c (p + 1) (d ∷ bs) e)
    ∙ (λ i. cond (b == c) (placed p [] ∷ take (marks i) (parted c (p + 1) (d ∷ bs))) (in_front b p (take (marks i) (parted c (p + 1) (d ∷ bs)))))
    ∙ closed_step (b == c) b c p n (parted c (p + 1) (d ∷ bs)) q.first q.others q.is
    ∙ (λ i. take (cond (b == c) (suc (sym marks i)) (sym marks i)) (cond (b == c) (placed p [] ∷ parted c (p + 1) (d ∷ bs)) (in_front b p (parted c (p + 1) (d ∷ bs)))))

-- a list of parts, from its first on
pub chain : {s : Placed} {a b c : List Placed} → a ≡ s ∷ b → b ≡ c → a ≡ s ∷ c
chain {s} e f = e ∙ ap (λ l. s ∷ l) f
