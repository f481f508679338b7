-- What a line says, and that it says one call at most.
use Rattle.std.proofs.Common.{◌≡◌, ℕ, suc, ◌+◌, ◌^◌, ◌<◌, ◌≤◌, Some, None, Option, MatchOption, Bool, true, false, cond, ◌==◌, List, [], ◌∷◌, ◌++◌, length, get_or, take, drop, codes, sym, refl, ap, ◌∙◌, subst, append_assoc, add-one, arith}
use Rattle.std.proofs.lemmas.Bool.{eqb-true}
use Rattle.std.proofs.lemmas.Str.Parse.{digits_value_short}
use Rattle.tasks.specs.Bytes.{every, digit}
use Rattle.text.proofs.Steps.{numerals}
use Rattle.std.proofs.lemmas.List.{take_at, drop_at, drop-drop}
use Rattle.text.specs.Cuts.{lead, count}
use Rattle.tasks.specs.declared.table.Table.{Table}
use Rattle.text.specs.Values.{number_of}
use Rattle.service.specs.declared.log.Call.{Call}
use Rattle.service.specs.declared.log.Call.TheVariants.{Open, Release, Tick, Counts, Figure}
use Rattle.transcript.specs.Calls.{Numeral, Follows, Says, an_opening, a_release, a_tick, the_counts, the_figure}

-- ---- a line parted by its first space

lead_step : (t : Bool) (n m k : ℕ) → cond t (suc n) n ≡ 0 → (n ≡ 0 → m ≡ k) → cond t 0 (suc m) ≡ suc k
lead_step true n m k h e = absurd (omega arith)
lead_step false n m k h e = ap suc (e h)

lead_word : (word rest : List ℕ) → count 32 word ≡ 0 → lead 32 (word ++ (32 ∷ rest)) ≡ length word
lead_word [] rest h = refl
lead_word (b ∷ word) rest h = lead_step (b == 32) (count 32 word) (lead 32 (word ++ (32 ∷ rest))) (length word) h (lead_word word rest)

count_step : (t : Bool) (b : ℕ) (bs : List ℕ) → b == 32 ≡ t → count 32 (take (lead 32 bs) bs) ≡ 0 → count 32 (take (cond t 0 (suc (lead 32 bs))) (b ∷ bs)) ≡ 0
count_step true b bs e h = refl
count_step false b bs e h = ap (λ t. cond t (suc (count 32 (take (lead 32 bs) bs))) (count 32 (take (lead 32 bs) bs))) e ∙ h

-- there is no space before the first
pub no_space : (bs : List ℕ) → count 32 (take (lead 32 bs) bs) ≡ 0
no_space [] = refl
no_space (b ∷ bs) = count_step (b == 32) b bs refl (no_space bs)

whole_step : (t : Bool) (c b : ℕ) (bs : List ℕ) → b == c ≡ t → (lead c bs < length bs → bs ≡ take (lead c bs) bs ++ (c ∷ drop (suc (lead c bs)) bs)) → cond t 0 (suc (lead c bs)) < suc (length bs) →
    b ∷ bs ≡ take (cond t 0 (suc (lead c bs))) (b ∷ bs) ++ (c ∷ drop (suc (cond t 0 (suc (lead c bs)))) (b ∷ bs))
whole_step true c b bs e h l = ap (λ x. x ∷ bs) (eqb-true b c e)
whole_step false c b bs e h l = ap (λ xs. b ∷ xs) (h (omega arith))

-- bytes are what stands before the first mark, the mark and what follows it
pub whole_line : (c : ℕ) (bs : List ℕ) → lead c bs < length bs → bs ≡ take (lead c bs) bs ++ (c ∷ drop (suc (lead c bs)) bs)
whole_line c [] h = absurd (omega arith)
whole_line c (b ∷ bs) h = whole_step (b == c) c b bs refl (whole_line c bs) h

-- a line that a word and a number make begins with the word
module _ (line word : List ℕ) (lacks : count 32 word ≡ 0) (n : ℕ) (f : Follows line (word ++ (32 ∷ [])) n) where
  line_is : line ≡ word ++ (32 ∷ f.0)
  line_is = f.1 ∙ append_assoc word (32 ∷ []) f.0

  lead_is : lead 32 line ≡ length word
  lead_is = ap (lead 32) line_is ∙ lead_word word f.0 lacks

  pub first_word : take (lead 32 line) line ≡ word
  first_word = (λ i. take (lead_is i) (line_is i)) ∙ take_at word (32 ∷ f.0) (length word) refl

  pub rest_is : drop (lead 32 line + 1) line ≡ f.0
  rest_is = (λ i. drop (lead_is i + 1) (line_is i)) ∙ sym (drop-drop 1 (length word) (word ++ (32 ∷ f.0))) ∙ ap (drop 1) (drop_at word (32 ∷ f.0) (length word) refl)

pub same_word : (line v w : List ℕ) (m n : ℕ) → count 32 v ≡ 0 → count 32 w ≡ 0 → Follows line (v ++ (32 ∷ [])) m → Follows line (w ++ (32 ∷ [])) n → v ≡ w
same_word line v w m n x y f g = sym (first_word line v x m f) ∙ first_word line w y n g

-- a line without a space has no word before a space
pub some_space : (line word : List ℕ) (n : ℕ) → Follows line (word ++ (32 ∷ [])) n → count 32 line ≡ 0 → ⊥
some_space line word n f none = spaces word (sym (ap (count 32) (f.1 ∙ append_assoc word (32 ∷ []) f.0)) ∙ none)
  where
    more : (t : Bool) (k : ℕ) → (k ≡ 0 → ⊥) → cond t (suc k) k ≡ 0 → ⊥
    more true k h e = omega arith
    more false k h e = h e

    spaces : (w : List ℕ) → count 32 (w ++ (32 ∷ f.0)) ≡ 0 → ⊥
    spaces [] e = omega arith
    spaces (b ∷ w) e = more (b == 32) (count 32 (w ++ (32 ∷ f.0))) (spaces w) e

-- a line cut at its first space is its word and its number
pub cut_line : (line : List ℕ) (at : ℕ) → at ≡ lead 32 line → at < length line → (n : ℕ) → Numeral (drop (at + 1) line) × (n ≡ number_of (drop (at + 1) line)) → (count 32 (take at line) ≡ 0) × Follows line (take at line ++ (32 ∷ [])) n
cut_line line at is room n h =
    let lead_at : lead 32 line ≡ at = sym is in
    let whole : line ≡ take at line ++ (32 ∷ drop (at + 1) line) =
    whole_line 32 line (omega arith) ∙ (λ i. take (lead_at i) line ++ (32 ∷ drop (suc (lead_at i)) line)) ∙ ap (λ k. take at line ++ (32 ∷ drop k line)) (sym (add-one at)) in
    (ap (λ k. count 32 (take k line)) is ∙ no_space line, (drop (at + 1) line, whole ∙ sym (append_assoc (take at line) (32 ∷ []) (drop (at + 1) line)), h.0, h.1))

-- ---- what a line says

-- lines that begin with other bytes are apart
apart : {A : Type 0} (a b : List ℕ) → a ≡ b → (get_or a 0 0 ≡ get_or b 0 0 → ⊥) → A
apart a b e n = absurd (n (ap (λ bs. get_or bs 0 0) e))

module _ (t : Table) where
  says_one : (a b : List ℕ) → a ≡ b → {c d : Call} → Says t a c → Says t b d → d ≡ c
  says_one a b e an_opening an_opening = refl
  says_one a b e an_opening (a_release y) = apart a b e (λ z. omega arith)
  says_one a b e an_opening (a_tick y) = apart a b e (λ z. omega arith)
  says_one a b e an_opening (the_counts y) = apart a b e (λ z. omega arith)
  says_one a b e an_opening (the_figure y) = apart a b e (λ z. omega arith)
  says_one a b e (a_release x) an_opening = apart a b e (λ z. omega arith)
  says_one a b e (a_release {ds} x) (a_release {ds = es} y) = let same : es ≡ ds = cc in ap (λ ns. Release (number_of ns)) same
  says_one a b e (a_release x) (a_tick y) = apart a b e (λ z. omega arith)
  says_one a b e (a_release x) (the_counts y) = apart a b e (λ z. omega arith)
  says_one a b e (a_release x) (the_figure y) = apart a b e (λ z. omega arith)
  says_one a b e (a_tick x) an_opening = apart a b e (λ z. omega arith)
  says_one a b e (a_tick x) (a_release y) = apart a b e (λ z. omega arith)
  says_one a b e (a_tick {ds} x) (a_tick {ds = es} y) = let same : es ≡ ds = cc in ap (λ ns. Tick (number_of ns)) same
  says_one a b e (a_tick x) (the_counts y) = apart a b e (λ z. omega arith)
  says_one a b e (a_tick x) (the_figure y) = apart a b e (λ z. omega arith)
  says_one a b e (the_counts x) an_opening = apart a b e (λ z. omega arith)
  says_one a b e (the_counts x) (a_release y) = apart a b e (λ z. omega arith)
  says_one a b e (the_counts x) (a_tick y) = apart a b e (λ z. omega arith)
  says_one a b e (the_counts {ds} x) (the_counts {ds = es} y) = let same : es ≡ ds = cc in ap (λ ns. Counts (number_of ns)) same
  says_one a b e (the_counts x) (the_figure y) = apart a b e (λ z. omega arith)
  says_one a b e (the_figure x) an_opening = apart a b e (λ z. omega arith)
  says_one a b e (the_figure x) (a_release y) = apart a b e (λ z. omega arith)
  says_one a b e (the_figure x) (a_tick y) = apart a b e (λ z. omega arith)
  says_one a b e (the_figure x) (the_counts y) = apart a b e (λ z. omega arith)
  says_one a b e (the_figure {ds} x) (the_figure {ds = es} y) = let same : es ≡ ds = cc in ap (λ ns. Figure (number_of ns)) same

  module _ (line : List ℕ) where
    -- the line says the call, and no other
    abbrev pub SaysJust : Call → Type 0
    SaysJust c = Says t line c × ((other : Call) → Says t line other → other ≡ c)

    pub says_open : line ≡ codes "open" → SaysJust (Open t)
    says_open e =
        let s : Says t line (Open t) = subst (λ bs. Says t bs (Open t)) (sym e) an_opening in
        (s, λ other o. says_one line line refl s o)

    -- a word and a number that say a call
    pub says_numbered : (word : List ℕ) (call : ℕ → Call) → ((ds : List ℕ) → Numeral ds → Says t ((word ++ (32 ∷ [])) ++ ds) (call (number_of ds))) → (w : List ℕ) → w ≡ word → (n : ℕ) → Follows line (w ++ (32 ∷ [])) n → SaysJust (call n)
    says_numbered word call says w e n g =
        let f = subst (λ v. Follows line (v ++ (32 ∷ [])) n) e g in
        let s : Says t line (call n) = subst (λ bs. Says t bs (call n)) (sym f.1) (subst (λ m. Says t ((word ++ (32 ∷ [])) ++ f.0) (call m)) (sym f.3) (says f.0 f.2)) in
        (s, λ other o. says_one line line refl s o)

    pub says_none : (line ≡ codes "open" → ⊥) → ((n : ℕ) → Follows line (codes "release ") n → ⊥) → ((n : ℕ) → Follows line (codes "tick ") n → ⊥) → ((n : ℕ) → Follows line (codes "counts ") n → ⊥) → ((n : ℕ) → Follows line (codes "figure ") n → ⊥) → (bs : List ℕ) → line ≡ bs → {c : Call} → Says t bs c → ⊥
    says_none o r k n f bs e an_opening = o e
    says_none o r k n f bs e (a_release {ds} x) = r (number_of ds) (ds, e, x, refl)
    says_none o r k n f bs e (a_tick {ds} x) = k (number_of ds) (ds, e, x, refl)
    says_none o r k n f bs e (the_counts {ds} x) = n (number_of ds) (ds, e, x, refl)
    says_none o r k n f bs e (the_figure {ds} x) = f (number_of ds) (ds, e, x, refl)

-- ---- a number of 1 to 9 digits

pub number_is : (ds : List ℕ) → 1 ≤ length ds → length ds ≤ 9 → (r : Option ℕ) → MatchOption r (every digit ds ≡ true → 2 ^ 32 ≤ number_of ds) (λ n. (every digit ds ≡ true) × (n ≡ number_of ds)) → MatchOption r (Numeral ds → ⊥) (λ n. Numeral ds × (n ≡ number_of ds))
number_is ds some few (Some n) h = ((some, few, h.0), h.1)
number_is ds some few None h = λ numeral. omega (arith, h numeral.2, digits_value_short numerals ds 9 numeral.2 few)
