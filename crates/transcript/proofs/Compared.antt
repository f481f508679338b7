-- Bytes compared with those of a word.
use Rattle.std.proofs.Common.{◌≡◌, ℕ, true, false, eqb, List, refl, sym, ◌∙◌}
use lib.Pointwise.{pointwise}
use Rattle.std.proofs.lemmas.Slice.Eq.{slice_eq-Decides}
use Rattle.std.proofs.lemmas.Bool.{false≢true}
use Rattle.std.proofs.lemmas.Bool.Decides.{Decides-eqb}

pub same : (bs word other : List ℕ) → true ≡ pointwise eqb bs word → word ≡ other → bs ≡ other
same bs word other e w = (slice_eq-Decides Decides-eqb bs word true e).0 refl ∙ w

pub apart : (bs word other : List ℕ) → false ≡ pointwise eqb bs word → word ≡ other → bs ≡ other → ⊥
apart bs word other e w h = false≢true ((slice_eq-Decides Decides-eqb bs word false e).1 (h ∙ sym w))
