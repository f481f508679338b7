-- What each technique means: which lines it takes, what it plans, where the mark goes, what it demands.
use Rattle.std.specs.Prelude.{ℕ, ◌*◌, Bool, true, nat_le, Option, Some, None}
use Rattle.std.specs.Option.{option_map_or}
use Rattle.words.specs.Turns.{turn_of}
use Rattle.tasks.specs.declared.line.Line.{Line}
use Rattle.tasks.specs.declared.technique.Technique.{Technique}
use Rattle.tasks.specs.declared.technique.Technique.TheVariants.{Fr, Sre, Sdr, Dre, Ddr}
use Rattle.tasks.specs.declared.job.Plan.{Plan}
use Rattle.tasks.specs.declared.job.Plan.TheVariants.{Bare, Detect, Correct, Recover}
use Rattle.tasks.specs.declared.job.Ending.{Ending}
use Rattle.policies.specs.declared.pattern.BitPlans.{BitPlans}
use Rattle.policies.specs.Endings.{worst}
use Rattle.policies.specs.Patterns.{pattern_plan, pattern_next, pattern_demand}

-- a recovery, d + r, fits the period
abbrev pub room_to_recover : Line → Bool
room_to_recover l = nat_le (worst l Recover) l.period

abbrev pub technique_takes : Technique → Line → Bool
technique_takes Fr l = true
technique_takes Sre l = true
technique_takes Sdr l = room_to_recover l
technique_takes Dre l = true
technique_takes Ddr l = room_to_recover l

-- the plans of a 0 and of a 1; FR goes by no bits
abbrev pub technique_bits : Technique → Option BitPlans
technique_bits Fr = None
technique_bits Sre = Some (record { on_zero = Bare; on_one = Correct })
technique_bits Sdr = Some (record { on_zero = Bare; on_one = Recover })
technique_bits Dre = Some (record { on_zero = Detect; on_one = Correct })
technique_bits Ddr = Some (record { on_zero = Detect; on_one = Recover })

-- by how many places a line's word is turned to be rearranged
abbrev pub rearranging : Line → ℕ
rearranging l = turn_of l.word l.k

-- by how many places a technique turns a line's word
abbrev pub technique_turn : Technique → Line → ℕ
technique_turn Fr l = 0
technique_turn Sre l = 0
technique_turn Sdr l = 0
technique_turn Dre l = rearranging l
technique_turn Ddr l = rearranging l

-- FR corrects every job; the others go by the bits
abbrev pub technique_plan : Technique → Line → ℕ → Plan
technique_plan t l mark = option_map_or (λ p. pattern_plan p (technique_turn t l) l mark) (technique_bits t) Correct

abbrev pub technique_next : Technique → Line → ℕ → Ending → ℕ
technique_next t l mark e = option_map_or (λ p. pattern_next p (technique_turn t l) l mark e) (technique_bits t) mark

abbrev pub technique_demand : Technique → Line → ℕ → ℕ
technique_demand t l n = option_map_or (λ p. pattern_demand p l n) (technique_bits t) (n * worst l Correct)
