-- The first broken rule of lists that follow one another.
use Rattle.std.proofs.Common.{◌≡◌, Bool, true, false, cond, List, [], ◌∷◌, ◌++◌, Some, None, Option, refl, ◌∙◌}
use Rattle.tasks.specs.declared.refusal.Refusal.{Refusal}
use Rattle.text.specs.Rules.{Rule, first_broken}

some_step : (t : Bool) (a b : Option Refusal) (x e : Refusal) → cond t a (Some x) ≡ Some e → (a ≡ Some e → b ≡ Some e) → cond t b (Some x) ≡ Some e
some_step true a b x e h k = k h
some_step false a b x e h k = h

-- a rule of the first list is broken
pub broken_first : (xs ys : List Rule) (e : Refusal) → first_broken xs ≡ Some e → first_broken (xs ++ ys) ≡ Some e
broken_first [] ys e h = absurd cc
broken_first (r ∷ rs) ys e h = some_step r.kept (first_broken rs) (first_broken (rs ++ ys)) r.otherwise e h (broken_first rs ys e)

none_step : (t : Bool) (a b o : Option Refusal) (x : Refusal) → cond t a (Some x) ≡ None → (a ≡ None → b ≡ o) → cond t b (Some x) ≡ o
none_step true a b o x h k = k h
none_step false a b o x h k = absurd cc

-- none of the first list is
pub broken_second : (xs ys : List Rule) → first_broken xs ≡ None → first_broken (xs ++ ys) ≡ first_broken ys
broken_second [] ys h = refl
broken_second (r ∷ rs) ys h = none_step r.kept (first_broken rs) (first_broken (rs ++ ys)) (first_broken ys) r.otherwise h (broken_second rs ys)

-- every rule is kept
abbrev pub AllKept : List Rule → Type 0
AllKept [] = Unit {0}
AllKept (r ∷ rs) = (r.kept ≡ true) × AllKept rs

kept_step : (t : Bool) (o : Option Refusal) (e : Refusal) → cond t o (Some e) ≡ None → (t ≡ true) × (o ≡ None)
kept_step true o e h = (refl, h)
kept_step false o e h = absurd cc

pub all_kept : (rs : List Rule) → first_broken rs ≡ None → AllKept rs
all_kept [] h = tt
all_kept (r ∷ rs) h = let s = kept_step r.kept (first_broken rs) r.otherwise h in (s.0, all_kept rs s.1)

pub none_broken : (rs : List Rule) → AllKept rs → first_broken rs ≡ None
none_broken [] h = refl
none_broken (r ∷ rs) h = (λ i. cond (h.0 i) (first_broken rs) (Some r.otherwise)) ∙ none_broken rs h.1
