-- Logs that are answered as the engine's steps say, each call on the status that the calls before it left.
use Rattle.std.specs.Prelude.{◌≡◌, ℕ, Bool, List, [], ◌∷◌, map, Ok, Err, Result}
use Rattle.tasks.specs.declared.job.Plan.{Plan}
use Rattle.tasks.specs.declared.job.Outcome.{Outcome}
use Rattle.tasks.specs.declared.refusal.Refusal.{Refusal}
use Rattle.policies.specs.Promises.{Meaning}
use Rattle.engine.specs.Status.{Status, new_status}
use Rattle.engine.specs.Steps as step
use Rattle.service.specs.declared.log.Call.{Call}
use Rattle.service.specs.declared.log.Call.TheVariants.{Open, Release, Tick, Counts, Figure}
use Rattle.service.specs.declared.log.Reply.{Reply}
use Rattle.service.specs.declared.log.Reply.TheVariants.{Opened, Planned, Ticked, Counted, Figured}
use Rattle.service.specs.declared.log.Entry.{Entry}

-- the answer of a call, from the result of the engine's method and the kind of reply
abbrev pub answer : {A : Type 0} → (A → Reply) → Result A Refusal → Result Reply Refusal
answer f (Ok x) = Ok (f x)
answer f (Err e) = Err e

-- the reply to a tick: the task that got it, and how it came out
abbrev pub ticked : ℕ × Outcome → Reply
ticked x = Ticked x.0 x.1

-- the reply to the question for counts: releases and ends
abbrev pub counted : ℕ × ℕ → Reply
counted x = Counted x.0 x.1

-- the calls of a log, in the same order
abbrev pub calls : List Entry → List Call
calls log = map (λ (e : Entry). e.call) log

module _ (m : Meaning) where
  -- a call on the status st is answered a, and leaves the status st'
  abbrev pub Answers : Status → Call → Result Reply Refusal → Status → Type 0
  Answers st (Open t) a st' = (r : Result Bool Refusal) × (a ≡ answer Opened r) × step.Opening m st t r st'
  Answers st (Release n) a st' = (r : Result Plan Refusal) × (a ≡ answer Planned r) × step.Release m st n r st'
  Answers st (Tick w) a st' = (r : Result (ℕ × Outcome) Refusal) × (a ≡ answer ticked r) × step.Tick m st w r st'
  Answers st (Counts n) a st' = (r : Result (ℕ × ℕ) Refusal) × (a ≡ answer counted r) × step.CountsAsked st n r st'
  Answers st (Figure n) a st' = (r : Result ℕ Refusal) × (a ≡ answer Figured r) × step.FigureAsked st n r st'

  -- the log is that of a new engine which now has the status
  pub data Served : List Entry → Status → Type 0 where
    no_call : Served [] new_status
    one_more : {log : List Entry} {st st' : Status} (e : Entry) → Served log st → Answers st e.call e.answer st' → Served (e ∷ log) st'

  -- no other answers to the same calls are served
  abbrev pub Alone : List Entry → Type 0
  Alone log = (other : List Entry) (st : Status) → Served other st → calls other ≡ calls log → other ≡ log
