-- The lines that tell what calls were answered, and how the tasks stand.
use Rattle.std.specs.Prelude.{ℕ, List, [], ◌∷◌, ◌++◌, Ok, Err, decimal, Result}
use Rattle.tasks.specs.Spelled.{plan_word, outcome_word}
use Rattle.tasks.specs.declared.refusal.Refusal.{Refusal}
use Rattle.service.specs.declared.log.Reply.{Reply}
use Rattle.service.specs.declared.log.Reply.TheVariants.{Opened, Planned, Ticked, Counted, Figured}
use Rattle.report.specs.Answer.{verdict_line, refusal_line}

-- the verdict, the plan's word, task and outcome, releases and ends, or the figure
abbrev pub reply_line : Reply → List ℕ
reply_line (Opened admitted) = verdict_line admitted
reply_line (Planned plan) = plan_word plan ++ (10 ∷ [])
reply_line (Ticked task outcome) = decimal task ++ (44 ∷ (outcome_word outcome ++ (10 ∷ [])))
reply_line (Counted releases ends) = decimal releases ++ (44 ∷ (decimal ends ++ (10 ∷ [])))
reply_line (Figured figure) = decimal figure ++ (10 ∷ [])

-- what a call is told, or its refusal
abbrev pub answer_line : Result Reply Refusal → List ℕ
answer_line (Ok reply) = reply_line reply
answer_line (Err refusal) = refusal_line refusal

-- number, releases, ends and figure of a task, parted by commas
abbrev pub task_line : ℕ → ℕ → ℕ → ℕ → List ℕ
task_line number releases ends figure = decimal number ++ (44 ∷ (decimal releases ++ (44 ∷ (decimal ends ++ (44 ∷ (decimal figure ++ (10 ∷ [])))))))
