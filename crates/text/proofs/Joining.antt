-- Parts joined again, and joined parts cut again.
use Rattle.std.proofs.Common.{◌≡◌, ℕ, suc, ◌+◌, ◌≤◌, Bool, true, false, cond, eqb, List, [], ◌∷◌, ◌++◌, length, sym, refl, ap, ◌∙◌, arith}
use Rattle.std.proofs.lemmas.Bool.{eqb-true, eq-eqb, false≢true}
use Rattle.text.specs.Cuts.{Placed, placed, in_front, parted, ended, count, last_byte}
use Rattle.text.specs.Law.{with_commas}
use Rattle.text.proofs.Cutting.{no_mark}
use Rattle.text.proofs.Spelling.{Lacks}

-- ---- joined

-- the parts with commas between, and the lines with their line feeds
abbrev pub between : List Placed → List ℕ
between [] = []
between (s ∷ []) = s.bytes
between (s ∷ t ∷ ss) = s.bytes ++ (44 ∷ between (t ∷ ss))

abbrev pub fed : List Placed → List ℕ
fed [] = []
fed (s ∷ ss) = s.bytes ++ (10 ∷ fed ss)

parted_some : (t : Bool) (b p : ℕ) (x : Placed) (xs : List Placed) → (y : Placed) × (ys : List Placed) × (cond t (placed p [] ∷ (x ∷ xs)) (in_front b p (x ∷ xs)) ≡ y ∷ ys)
parted_some true b p x xs = (placed p [], x ∷ xs, refl)
parted_some false b p x xs = (placed p (b ∷ x.bytes), xs, refl)

between_front : (b p : ℕ) (x : Placed) (xs : List Placed) → between (in_front b p (x ∷ xs)) ≡ b ∷ between (x ∷ xs)
between_front b p x [] = refl
between_front b p x (y ∷ ys) = refl

between_step : (t : Bool) (b p : ℕ) (qs : List Placed) (bs : List ℕ) → (t ≡ true → b ≡ 44) → (x : Placed) (xs : List Placed) → qs ≡ x ∷ xs → between qs ≡ bs → between (cond t (placed p [] ∷ qs) (in_front b p qs)) ≡ b ∷ bs
between_step true b p qs bs h x xs e ih = ap (λ q. between (placed p [] ∷ q)) e ∙ ap (λ q. 44 ∷ between q) (sym e) ∙ (λ i. sym (h refl) i ∷ ih i)
between_step false b p qs bs h x xs e ih = ap (λ q. between (in_front b p q)) e ∙ between_front b p x xs ∙ ap (λ q. b ∷ between q) (sym e) ∙ ap (λ q. b ∷ q) ih

record Joins (p : ℕ) (bs : List ℕ) : Type 0 where
  first : Placed
  others : List Placed
  is : parted 44 p bs ≡ first ∷ others
  same : between (parted 44 p bs) ≡ bs

joins : (p : ℕ) (bs : List ℕ) → Joins p bs
joins p [] = record { first = placed p []; others = []; is = refl; same = refl }
joins p (b ∷ bs) =
    let j = joins (p + 1) bs in
    let s = parted_some (eqb b 44) b p j.first j.others in
    record {
      first = s.0;
      others = s.1;
      is = ap (λ q. cond (eqb b 44) (placed p [] ∷ q) (in_front b p q)) j.is ∙ s.2;
      same = between_step (eqb b 44) b p (parted 44 (p + 1) bs) bs (eqb-true b 44) j.first j.others j.is j.same;
    }

pub between_parted : (p : ℕ) (bs : List ℕ) → between (parted 44 p bs) ≡ bs
between_parted p bs = (joins p bs).same

fed_step : (t : Bool) (b p : ℕ) (qs : List Placed) (y : ℕ) (ys : List ℕ) → (t ≡ true → b ≡ 10) → fed qs ≡ y ∷ ys → fed (cond t (placed p [] ∷ qs) (in_front b p qs)) ≡ b ∷ (y ∷ ys)
fed_step true b p qs y ys h e = (λ i. sym (h refl) i ∷ e i)
fed_step false b p [] y ys h e = absurd (omega (arith, ap length e))
fed_step false b p (q ∷ qs) y ys h e = ap (λ x. b ∷ x) e

fed_one : (t : Bool) (b p : ℕ) → t ≡ true → b ≡ 10 → fed (cond t (placed p [] ∷ []) (in_front b p [])) ≡ b ∷ []
fed_one true b p h e = ap (λ x. x ∷ []) (sym e)
fed_one false b p h e = absurd (false≢true h)

pub fed_ended : (p : ℕ) (bs : List ℕ) → last_byte bs ≡ 10 → fed (ended 10 p bs) ≡ bs
fed_ended p [] e = refl
fed_ended p (b ∷ []) e = fed_one (eqb b 10) b p (eq-eqb b 10 e) e
fed_ended p (b ∷ c ∷ bs) e = fed_step (eqb b 10) b p (ended 10 (p + 1) (c ∷ bs)) c bs (eqb-true b 10) (fed_ended (p + 1) (c ∷ bs) e)

pub fed_some : (ls : List Placed) (bs : List ℕ) → last_byte bs ≡ 10 → fed ls ≡ bs → 1 ≤ length ls
fed_some [] bs e f = absurd (omega (arith, ap last_byte f))
fed_some (l ∷ ls) bs e f = omega arith

-- ---- cut again

join_step : (t : Bool) (b c p : ℕ) (f rest : List ℕ) → cond t (suc (count c f)) (count c f) ≡ 0 →
    (count c f ≡ 0 → (parted c (p + 1) (f ++ (c ∷ rest)) ≡ placed (p + 1) f ∷ parted c (p + 1 + length f + 1) rest) × (ended c (p + 1) (f ++ (c ∷ rest)) ≡ placed (p + 1) f ∷ ended c (p + 1 + length f + 1) rest)) →
    (cond t (placed p [] ∷ parted c (p + 1) (f ++ (c ∷ rest))) (in_front b p (parted c (p + 1) (f ++ (c ∷ rest)))) ≡ placed p (b ∷ f) ∷ parted c (p + suc (length f) + 1) rest)
    × (cond t (placed p [] ∷ ended c (p + 1) (f ++ (c ∷ rest))) (in_front b p (ended c (p + 1) (f ++ (c ∷ rest)))) ≡ placed p (b ∷ f) ∷ ended c (p + suc (length f) + 1) rest)
join_step true b c p f rest h ih = absurd (omega arith)
join_step false b c p f rest h ih =
    let i = ih h in
    let e : p + 1 + length f + 1 ≡ p + suc (length f) + 1 = omega arith in
    (ap (in_front b p) i.0 ∙ ap (λ q. placed p (b ∷ f) ∷ parted c q rest) e, ap (in_front b p) i.1 ∙ ap (λ q. placed p (b ∷ f) ∷ ended c q rest) e)

pub joined : (c p : ℕ) (f rest : List ℕ) → count c f ≡ 0 → (parted c p (f ++ (c ∷ rest)) ≡ placed p f ∷ parted c (p + length f + 1) rest) × (ended c p (f ++ (c ∷ rest)) ≡ placed p f ∷ ended c (p + length f + 1) rest)
joined c p [] rest h =
    let e : p + 1 ≡ p + 0 + 1 = omega arith in
    let t = eq-eqb c c refl in (
      (λ i. cond (t i) (placed p [] ∷ parted c (p + 1) rest) (in_front c p (parted c (p + 1) rest))) ∙ ap (λ q. placed p [] ∷ parted c q rest) e,
      (λ i. cond (t i) (placed p [] ∷ ended c (p + 1) rest) (in_front c p (ended c (p + 1) rest))) ∙ ap (λ q. placed p [] ∷ ended c q rest) e,
    )
joined c p (b ∷ f) rest h = join_step (eqb b c) b c p f rest h (joined c (p + 1) f rest)

-- the parts of fields with commas between
abbrev pub parts_of : ℕ → List ℕ → List (List ℕ) → List Placed
parts_of p f [] = placed p f ∷ []
parts_of p f (g ∷ gs) = placed p f ∷ parts_of (p + length f + 1) g gs

abbrev pub AllLack : List ℕ → List (List ℕ) → Type 0
AllLack f [] = Lacks f
AllLack f (g ∷ gs) = Lacks f × AllLack g gs

pub parted_commas : (p : ℕ) (f : List ℕ) (gs : List (List ℕ)) → AllLack f gs → parted 44 p (with_commas f gs) ≡ parts_of p f gs
parted_commas p f [] h = (no_mark 44 p f h.0).0
parted_commas p f (g ∷ gs) h = (joined 44 p f (with_commas g gs) h.0.0).0 ∙ ap (λ q. placed p f ∷ q) (parted_commas (p + length f + 1) g gs h.1)

count_step : (t : Bool) (n m k : ℕ) → n ≡ m + k → cond t (suc n) n ≡ cond t (suc m) m + k
count_step true n m k e = omega arith
count_step false n m k e = e

count_append : (c : ℕ) (xs ys : List ℕ) → count c (xs ++ ys) ≡ count c xs + count c ys
count_append c [] ys = omega arith
count_append c (x ∷ xs) ys = count_step (eqb x c) (count c (xs ++ ys)) (count c xs) (count c ys) (count_append c xs ys)

pub commas_lack : (f : List ℕ) (gs : List (List ℕ)) → AllLack f gs → count 10 (with_commas f gs) ≡ 0
commas_lack f [] h = h.1
commas_lack f (g ∷ gs) h = omega (arith, count_append 10 f (44 ∷ with_commas g gs), h.0.1, commas_lack g gs h.1)

pub last_append : (xs : List ℕ) (y : ℕ) (ys : List ℕ) → last_byte (xs ++ (y ∷ ys)) ≡ last_byte (y ∷ ys)
last_append [] y ys = refl
last_append (x ∷ []) y ys = refl
last_append (x ∷ z ∷ xs) y ys = last_append (z ∷ xs) y ys

pub last_more : (x : ℕ) (ys : List ℕ) → last_byte ys ≡ 10 → last_byte (x ∷ ys) ≡ 10
last_more x [] e = absurd (omega arith)
last_more x (y ∷ ys) e = e
