-- A run of an engine under the by-line policy: its calls and their answers, in order.
use Rattle.std.specs.Prelude.{◌≡◌, ℕ, true, List, [], ◌∷◌, Ok, Err, codes, Result}
use Rattle.tasks.specs.declared.table.Table.{Table}
use Rattle.tasks.specs.declared.job.Plan.TheVariants.{Detect, Correct}
use Rattle.tasks.specs.declared.job.Ending.TheVariants.{Bad, Sure}
use Rattle.tasks.specs.declared.job.Outcome.TheVariants.{Idle, On, Ended}
use Rattle.tasks.specs.declared.refusal.Refusal.{Refusal}
use Rattle.tasks.specs.declared.refusal.Refusal.TheVariants.{TooEarly}
use Rattle.tasks.specs.Rows.{rows_of}
use Rattle.text.specs.Reading.{reading}
use Rattle.service.specs.declared.log.Call.{Call}
use Rattle.service.specs.declared.log.Call.TheVariants.{Open, Release, Tick}
use Rattle.service.specs.declared.log.Reply.{Reply}
use Rattle.service.specs.declared.log.Reply.TheVariants.{Opened, Planned, Ticked}
use Rattle.service.specs.declared.log.Entry.{Entry}

-- one task: DRE by the word 01, the times 1, 2 and 3, the period 5
abbrev pub run_text : List ℕ
run_text = codes "A,DRE,1,2,R,1,2,3,5\n"

-- a call and its answer
abbrev pub entry : Call → Result Reply Refusal → Entry
entry c a = record { call = c; answer = a }

-- the table is admitted
abbrev pub opening : Table → Entry
opening t = entry (Open t) (Ok (Opened true))

-- a release of task 1 is planned D, is planned R, and is refused with 13: too early
abbrev pub planned_d : Entry
planned_d = entry (Release 1) (Ok (Planned Detect))

abbrev pub planned_r : Entry
planned_r = entry (Release 1) (Ok (Planned Correct))

abbrev pub too_early : Entry
too_early = entry (Release 1) (Err TooEarly)

-- the tick 0 goes to task 1, which goes on; or to no task
abbrev pub on : Entry
on = entry (Tick 0) (Ok (Ticked 1 On))

abbrev pub idle : Entry
idle = entry (Tick 0) (Ok (Ticked 0 Idle))

-- the tick 2 ends the job of task 1 bad, and the tick 1 ends it sure
abbrev pub bad : Entry
bad = entry (Tick 2) (Ok (Ticked 1 (Ended Bad)))

abbrev pub sure : Entry
sure = entry (Tick 1) (Ok (Ticked 1 (Ended Sure)))

-- the first job detects a fault, so the next one corrects; a release is refused after four ticks, and not after five
abbrev pub run_log : Table → List Entry
run_log t = opening t ∷ planned_d ∷ on ∷ bad ∷ idle ∷ idle ∷ too_early ∷ idle ∷ planned_r ∷ on ∷ on ∷ sure ∷ []

-- the log is that of the run on a table that the text says
abbrev pub TheRun : List Entry → Type 0
TheRun log = (t : Table) × (reading run_text ≡ Ok (rows_of t)) × (log ≡ run_log t)
