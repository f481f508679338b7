-- The two words fit a line, and what SRE demands by them.
use Rattle.std.proofs.Common.{◌≡◌, ℕ, ◌^◌, ◌<◌, [], ◌∷◌, Some, refl, lit<, lit≤}
use Rattle.words.specs.Bits.{ones}
use Rattle.words.specs.Sums.{sum_below, row, greatest_below, greatest_row}
use Rattle.examples.specs.Demands.{FitWord, sre_demand, demands_told}

fits : (word : ℕ) → word < 2 ^ 4 → ones 4 word ≡ 2 → FitWord word
fits word narrow two = record { window = (lit≤ tt, lit≤ tt, lit≤ tt); narrow = narrow; reliable = two; ordered = (lit≤ tt, lit< tt, lit< tt, lit≤ tt, lit≤ tt) }

pub spread_fits : FitWord 10
unfolding sum_below
spread_fits = fits 10 (lit< tt) refl

pub last_fits : FitWord 12
unfolding sum_below
last_fits = fits 12 (lit< tt) refl

pub demands_are : Some (sre_demand 10 0) ∷ Some (sre_demand 10 1) ∷ Some (sre_demand 10 2) ∷ Some (sre_demand 10 5) ∷ Some (sre_demand 12 2) ∷ [] ≡ demands_told
unfolding greatest_row greatest_below row sum_below
demands_are = refl
