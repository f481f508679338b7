-- The words that stand for techniques, plans, endings and outcomes in texts.
use Rattle.std.specs.Prelude.{ℕ, List, codes}
use Rattle.tasks.specs.declared.technique.Technique.{Technique}
use Rattle.tasks.specs.declared.technique.Technique.TheVariants.{Fr, Sre, Sdr, Dre, Ddr}
use Rattle.tasks.specs.declared.job.Plan.{Plan}
use Rattle.tasks.specs.declared.job.Plan.TheVariants.{Bare, Detect, Correct, Recover}
use Rattle.tasks.specs.declared.job.Ending.{Ending}
use Rattle.tasks.specs.declared.job.Ending.TheVariants.{Blind, Clean, Bad, Sure}
use Rattle.tasks.specs.declared.job.Outcome.{Outcome}
use Rattle.tasks.specs.declared.job.Outcome.TheVariants.{Idle, On, Again, Ended}

abbrev pub technique_word : Technique → List ℕ
technique_word Fr = codes "FR"
technique_word Sre = codes "SRE"
technique_word Sdr = codes "SDR"
technique_word Dre = codes "DRE"
technique_word Ddr = codes "DDR"

abbrev pub plan_word : Plan → List ℕ
plan_word Bare = codes "U"
plan_word Detect = codes "D"
plan_word Correct = codes "R"
plan_word Recover = codes "DR"

abbrev pub ending_word : Ending → List ℕ
ending_word Blind = codes "blind"
ending_word Clean = codes "clean"
ending_word Bad = codes "bad"
ending_word Sure = codes "sure"

abbrev pub outcome_word : Outcome → List ℕ
outcome_word Idle = codes "idle"
outcome_word On = codes "on"
outcome_word Again = codes "again"
outcome_word (Ended e) = ending_word e
