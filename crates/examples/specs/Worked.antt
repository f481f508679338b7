-- All worked examples together.
use Rattle.std.specs.Prelude.{◌≡◌, [], ◌∷◌, IfOk, vec_items}
use Rattle.examples.specs.declared.all.Examples.{Examples}
use Rattle.examples.specs.Words.{pattern_words, rearranged_word}
use Rattle.examples.specs.Demands.{demands_told}
use Rattle.examples.specs.Cameras.{report_told, figures_told, refusals_told}
use Rattle.examples.specs.Runs.{TheRun}

pub record Worked (x : Examples) : Type 0 where
  pub patterns : x.patterns ≡ pattern_words
  pub turned : x.turned ≡ rearranged_word
  pub demands : x.demands ≡ demands_told
  -- if there is memory for it
  pub report : IfOk x.report (λ v. vec_items v ≡ report_told)
  -- with R for E, and with DRE for the camera
  pub figures : x.figures ≡ figures_told ∷ figures_told ∷ []
  pub refusals : x.refusals ≡ refusals_told
  pub run : TheRun x.run
