-- A table that grows by a line keeps its rules.
use Rattle.std.proofs.Common.{◌≡◌, ℕ, suc, ◌+◌, ◌-◌, ◌<◌, ◌≤◌, Bool, List, [], ◌∷◌, map, length, Decides, refl, get_or, take, set, sym, ap, ◌∙◌, subst, ⊎_elim, arith}
use lib.ListN.{length-map}
use Rattle.std.proofs.lemmas.List.{length-take-le, get_or-take, get_or-set_same, get_or-set_other, map-set, take-map, get_or-map}
use Rattle.std.proofs.lemmas.Bool.{cases_lt}
use Rattle.std.proofs.lemmas.Bool.Decides.{Decides-like, Decides-by_or}
use Rattle.std.proofs.lemmas.Slice.Eq.{bytes_eq-Decides}
use Rattle.std.specs.List.{list_any, HoldsAt}
use Rattle.std.specs.Str.{bytes_eq}
use Rattle.tasks.specs.declared.line.Line.{Line}
use Rattle.tasks.specs.Named.{name_bytes}
use Rattle.tasks.specs.Lines.{names, periods}
use Rattle.tasks.specs.Tables.{Used, last_period}

-- what a list of values says below n, it says with a further value at n
module _ {X : Type 0} (xs : List X) (n : ℕ) (v d : X) (room : n < length xs) where
  pub kept_below : (i : ℕ) → i < n → get_or (set xs n v) i d ≡ get_or xs i d
  kept_below i h = get_or-set_other xs n i v d (λ e. omega arith)

  pub new_at : get_or (set xs n v) n d ≡ v
  new_at = get_or-set_same xs n v d room

rising_values : (xs : List ℕ) (n v : ℕ) → n < length xs → ((i : ℕ) → suc i < n → get_or xs i 0 ≤ get_or xs (suc i) 0) → (0 < n → get_or xs (n - 1) 0 ≤ v) → (i : ℕ) → suc i < n + 1 → get_or (set xs n v) i 0 ≤ get_or (set xs n v) (suc i) 0
rising_values xs n v room old last i h =
    ⊎_elim
    (λ (l : suc i < n). omega (arith, kept_below xs n v 0 room i (omega arith), kept_below xs n v 0 room (suc i) l, old i l))
    (λ (l : n ≤ suc i).
    let e : suc i ≡ n = omega arith in
    let f : i ≡ n - 1 = omega arith in
    omega (arith, kept_below xs n v 0 room i (omega arith), ap (λ x. get_or (set xs n v) x 0) e, new_at xs n v 0 room, ap (λ x. get_or xs x 0) f, last (omega arith)))
    (cases_lt (suc i) n)

apart_values : (xs : List (List ℕ)) (n : ℕ) (v : List ℕ) → n < length xs → ((i j : ℕ) → i < j → j < n → get_or xs i [] ≡ get_or xs j [] → ⊥) → ((i : ℕ) → i < n → get_or xs i [] ≡ v → ⊥) → (i j : ℕ) → i < j → j < n + 1 → get_or (set xs n v) i [] ≡ get_or (set xs n v) j [] → ⊥
apart_values xs n v room old new i j lt h same =
    let front : get_or (set xs n v) i [] ≡ get_or xs i [] = kept_below xs n v [] room i (omega arith) in
    ⊎_elim
    (λ (l : j < n). old i j lt l (sym front ∙ same ∙ kept_below xs n v [] room j l))
    (λ (l : n ≤ j).
    let e : j ≡ n = omega arith in
    new i (omega arith) (sym front ∙ same ∙ ap (λ x. get_or (set xs n v) x []) e ∙ new_at xs n v [] room))
    (cases_lt j n)

-- the period of the last of n lines
pub last_is : (ls : List Line) (n : ℕ) → 0 < n → n ≤ length ls → last_period (take n ls) ≡ get_or (periods ls) (n - 1) 0
last_is ls n some room =
    ap (λ x. get_or (periods (take n ls)) (x - 1) 0) (length-take-le n ls room)
    ∙ ap (λ xs. get_or xs (n - 1) 0) (sym (take-map (λ (y : Line). y.period) n ls))
    ∙ get_or-take n (periods ls) (n - 1) 0 (omega arith)

module _ (ls : List Line) (n : ℕ) (l : Line) (room : n < length ls) where
  pub rising_more : ((i : ℕ) → suc i < n → get_or (periods ls) i 0 ≤ get_or (periods ls) (suc i) 0) → last_period (take n ls) ≤ l.period → (i : ℕ) → suc i < n + 1 → get_or (periods (set ls n l)) i 0 ≤ get_or (periods (set ls n l)) (suc i) 0
  rising_more old last i h =
      let e = map-set (λ (y : Line). y.period) ls n l in
      let room' : n < length (periods ls) = omega (arith, length-map ls (λ (y : Line). y.period)) in
      subst (λ (xs : List ℕ). get_or xs i 0 ≤ get_or xs (suc i) 0) (sym e) (rising_values (periods ls) n l.period room' old (λ s. omega (arith, last_is ls n s (omega arith), last)) i h)

  pub used_at : (i : ℕ) → i < n → get_or (names ls) i [] ≡ name_bytes l.name → Used (name_bytes l.name) (take n ls)
  used_at i h e = (i, omega (arith, length-take-le n ls (omega arith)), ap (λ xs. get_or xs i []) (sym (take-map (λ (y : Line). name_bytes y.name) n ls)) ∙ get_or-take n (names ls) i [] h ∙ e)

  pub apart_more : ((i j : ℕ) → i < j → j < n → get_or (names ls) i [] ≡ get_or (names ls) j [] → ⊥) → (Used (name_bytes l.name) (take n ls) → ⊥) → (i j : ℕ) → i < j → j < n + 1 → get_or (names (set ls n l)) i [] ≡ get_or (names (set ls n l)) j [] → ⊥
  apart_more old new i j lt h same =
      let e = map-set (λ (y : Line). name_bytes y.name) ls n l in
      let room' : n < length (names ls) = omega (arith, length-map ls (λ (y : Line). name_bytes y.name)) in
      apart_values (names ls) n (name_bytes l.name) room' old (λ x b f. new (used_at x b f)) i j lt h (ap (λ xs. get_or xs i []) (sym e) ∙ same ∙ ap (λ xs. get_or xs j []) e)

-- a search of lines for a name
pub Decides-used : (x : List ℕ) (ls : List Line) → Decides (list_any (λ (l : Line). bytes_eq (name_bytes l.name) x) ls) (Used x ls)
Decides-used x ls =
    Decides-like
    (list_any test ls)
    (λ h. (h.0, omega (arith, h.1), read ls h))
    (λ u. (u.0, u.1, λ d. sym (get_or-map name ls u.0 d [] u.1) ∙ u.2))
    (Decides-by_or test (λ l. name l ≡ x) (list_any test) (λ l. bytes_eq-Decides (name l) x) refl (λ _ _. refl) ls)
  where
    name : Line → List ℕ
    name l = name_bytes l.name

    test : Line → Bool
    test l = bytes_eq (name l) x

    read : (ys : List Line) (h : (k : ℕ) × (k < length ys) × HoldsAt (λ l. name l ≡ x) ys k) → get_or (map name ys) h.0 [] ≡ x
    read [] h = absurd (omega (arith, h.1))
    read (y ∷ ys) h = get_or-map name (y ∷ ys) h.0 y [] h.1 ∙ h.2 y
