use Rattle.std.proofs.Common.{◌≡◌, [], ◌∷◌, Err, refl}
use Rattle.tasks.specs.declared.refusal.Refusal.TheVariants.{Text, Value}
use Rattle.text.specs.Reading.{reading}
use Rattle.examples.specs.Cameras.{cameras_short}
use Rattle.examples.proofs.cameras.refusals.Goals as goal

short : reading cameras_short ≡ Err (Value 2 46)
unfolding reading
short = refl

empty : reading [] ≡ Err Text
unfolding reading
empty = refl

pub returns : goal.returns
returns c = λ i. c.refused.ensures (Value 2 46) short i ∷ c.refused-2.ensures Text empty i ∷ []
