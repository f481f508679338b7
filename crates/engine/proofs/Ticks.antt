-- A tick, told by the records of the tasks at their places.
use Rattle.std.proofs.Common.{◌≡◌, ℕ, zero, suc, ◌+◌, ◌-◌, ◌<◌, ◌≤◌, true, false, not, ◌⊎◌, List, [], ◌∷◌, length, get_or, take, set, None, Some, Ok, Err, Option, sym, refl, ap, ◌∙◌, subst, inl, inr, ⊎_elim, arith}
use denote.Enum.Bare.{sameb}
use Rattle.std.proofs.lemmas.List.{length-take}
use Rattle.std.proofs.lemmas.Bool.{cases_eq}
use Rattle.std.proofs.lemmas.Bool.Decides.{nat_tests}
use Rattle.std.proofs.lemmas.Grind.{common_steps}
use Rattle.tasks.specs.declared.line.Line.{Line}
use Rattle.tasks.specs.declared.job.Outcome.{Outcome}
use Rattle.tasks.specs.declared.job.Outcome.TheVariants.{On}
use Rattle.tasks.specs.declared.refusal.Refusal.TheVariants.{TickWord}
use Rattle.tasks.specs.Tables.{Numbered}
use Rattle.policies.specs.Promises.{Meaning}
use Rattle.engine.specs.contracts.word.Word.{the_type}
use Rattle.engine.specs.declared.word.Word.{Word}
use Rattle.engine.specs.declared.word.Word.TheVariants.{GoesOn}
use Rattle.engine.specs.declared.state.OpenJob.{OpenJob}
use Rattle.engine.specs.declared.state.Task.{Task}
use Rattle.engine.specs.declared.state.State.{State}
use Rattle.engine.specs.Jobs.{unused, heard, task_after}
use Rattle.engine.specs.Words.{said_by}
use Rattle.engine.specs.Kept.{Fair}
use Rattle.engine.specs.Status.{Status, open_lines, task_of, put, status_of, most_ticks}
use Rattle.engine.specs.Steps.{Turn, later, Tick, no_job, unheard, runs, ticks}
use Rattle.engine.specs.Lookups.{FirstOpen}
use Rattle.engine.proofs.Tasks.{task_at, task_set}
use Rattle.engine.proofs.Found.{status_eq}

-- ---- the first open job among the first n records, n the number of lines

module _ (s : State) (ls : List Line) (n : ℕ) (count : n ≡ length ls) where
  -- the record with the number k stands among the first n
  among : (k : ℕ) → 1 ≤ k → k ≤ n → task_of s.tasks k ≡ get_or (take n s.tasks) (k - 1) unused
  among k pos below = grind (arith, common_steps)

  pub first_turn : (place : ℕ) (l : Line) (o : OpenJob) → FirstOpen (take n s.tasks) place o → l ≡ get_or ls place l → Turn (status_of s) ls (place + 1) l o
  first_turn place l o f line = record {
    line = grind (arith, f.within, length-take);
    job = grind (arith, among (place + 1), f.within, f.job, length-take);
    first = λ k pos below. grind (arith, among k, f.before (k - 1), f.within, length-take);
  }

-- a number up to the count of lines has a line
numbered_at : (ls : List Line) (n : ℕ) → 1 ≤ n → n ≤ length ls → (l : Line) × Numbered ls n l
numbered_at [] n pos le = absurd (omega arith)
numbered_at (d ∷ ls) n pos le = (get_or (d ∷ ls) (n - 1) d, grind (arith, common_steps))

-- the record at its place has the job
pub turn_job : (s : State) (ls : List Line) (place : ℕ) (l : Line) (o : OpenJob) → Turn (status_of s) ls (place + 1) l o → (get_or s.tasks place unused).job ≡ Some o
turn_job s ls place l o turn = grind arith

-- ---- a tick that no job hears

-- the first number from 1 to n where f is something, if there is one
first_among : (f : ℕ → Option OpenJob) (n : ℕ) → ((k : ℕ) → 1 ≤ k → k ≤ n → f k ≡ None) ⊎ ((k : ℕ) × (o : OpenJob) × (1 ≤ k) × (k ≤ n) × (f k ≡ Some o) × ((j : ℕ) → 1 ≤ j → j < k → f j ≡ None))
first_among f zero = inl (λ k pos le. absurd (omega arith))
first_among f (suc n) = ⊎_elim
    (λ (none : (k : ℕ) → 1 ≤ k → k ≤ n → f k ≡ None). by_last none (f (suc n)) refl)
    (λ (k, o, pos, le, job, before). inr (k, o, pos, omega arith, job, before))
    (first_among f n)
  where
    by_last : ((k : ℕ) → 1 ≤ k → k ≤ n → f k ≡ None) → (j : Option OpenJob) → f (suc n) ≡ j
        → ((k : ℕ) → 1 ≤ k → k ≤ suc n → f k ≡ None) ⊎ ((k : ℕ) × (o : OpenJob) × (1 ≤ k) × (k ≤ suc n) × (f k ≡ Some o) × ((j : ℕ) → 1 ≤ j → j < k → f j ≡ None))
    by_last none None e = inl (λ k pos le. ⊎_elim (λ (is : k ≡ suc n). ap f is ∙ e) (λ (ne : k ≡ suc n → ⊥). none k pos (omega arith)) (cases_eq k (suc n)))
    by_last none (Some o) e = inr (suc n, o, omega arith, omega arith, e, λ j pos less. none j pos (omega arith))

heard_none : (o : OpenJob) (word : ℕ) → 2 < word → heard o word ≡ None
heard_none o word high = grind arith

-- a word above 2 is refused, whether a job is open or not
pub unsaid : (m : Meaning) (st : Status) (ls : List Line) (word : ℕ) → st.lines ≡ Some ls → st.ticks < most_ticks → 2 < word → Tick m st word (Err TickWord) st
unsaid m st ls word there more high = ⊎_elim
    (λ (none : (k : ℕ) → 1 ≤ k → k ≤ length ls → (st.task k).job ≡ None). ticks there more (no_job refl (λ k is. none k is.0 is.1) (omega arith)))
    (λ (k, o, pos, le, job, before).
    let line = numbered_at ls k pos le in
    ticks there more (unheard refl (record { line = line.1; job = job; first = before }) (heard_none o word high)))
    (first_among (λ k. (st.task k).job) (length ls))

-- what the job makes of the number, from what it makes of the word
pub heard_by : (o : OpenJob) (w : Word) {word : ℕ} {r y : Option Outcome} → said_by w ≡ word → r ≡ heard o (said_by w) → r ≡ y → heard o word ≡ y
heard_by o w said told is = cc (ap (heard o) said)

-- a word tested for `GoesOn`
pub goes_on : (w : Word) → false ≡ not (sameb the_type w GoesOn) → said_by w ≡ 0
goes_on w e = grind arith

pub goes_not : (w : Word) → true ≡ not (sameb the_type w GoesOn) → 0 < said_by w
goes_not w e = grind arith

-- ---- a tick to that job

module _ (m : Meaning) (s : State) (ls : List Line) (there : open_lines s.setup ≡ Some ls) (more : s.ticks < most_ticks) where
  pub ticked : (place word : ℕ) (l : Line) (o : OpenJob) (x : Outcome) → place < length s.tasks → Turn (status_of s) ls (place + 1) l o → heard o word ≡ Some x
      → Tick m (status_of s) word (Ok (place + 1, x)) (status_of (record { setup = s.setup; tasks = set s.tasks place (task_after m l (get_or s.tasks place unused) o x); ticks = s.ticks + 1 }))
  ticked place word l o x room turn says =
      let was : Status = status_of s in
      let n = place + 1 in
      let back : n - 1 ≡ place = omega arith in
      let at : was.task n ≡ get_or s.tasks place unused = task_at s.tasks n (omega arith) ∙ ap (λ i. get_or s.tasks i unused) back in
      let new : Task → Task = λ t. task_after m l t o x in
      let step : Tick m was word (Ok (n, x)) (later was (put n (new (was.task n)) was.task)) = ticks there more (runs turn says) in
      let records : put n (new (was.task n)) was.task ≡ task_of (set s.tasks place (new (get_or s.tasks place unused))) =
      ap (λ (t : Task). put n (new t) was.task) at ∙ sym (task_set s.tasks n place (new (get_or s.tasks place unused)) (omega arith) (sym back) room) in
      subst (Tick m was word (Ok (n, x))) (status_eq (later was (put n (new (was.task n)) was.task)) _ refl refl refl records) step

-- ---- what is left after a tick

-- a job that goes on had a second tick left
pub on_left : (o : OpenJob) (word : ℕ) → heard o word ≡ Some On → 1 < o.left
on_left o word e = grind (arith, nat_tests)

-- the record of a task is fair after a tick to its job
pub after_fair : (m : Meaning) (now : ℕ) (l : Line) (t : Task) (o : OpenJob) (x : Outcome) (word : ℕ) → heard o word ≡ Some x → t.job ≡ Some o → Fair now t → Fair (now + 1) (task_after m l t o x)
after_fair m now l t o x word e j f = grind (arith, l.ordered, on_left)
