-- The task that a number names in an engine's table.
use Rattle.std.proofs.Common.{◌≡◌, ℕ, suc, ◌-◌, ◌<◌, ◌≤◌, Bool, true, false, List, [], ◌∷◌, length, get_or, replicate, Some, None, Ok, Err, Option, Result, Bor, sym, refl, ap, ◌∙◌, subst, arith}
use Rattle.std.specs.Option.{option_copied, ok_or, is_some}
use Rattle.std.proofs.lemmas.List.{length-take}
use Rattle.tasks.specs.declared.line.Line.{Line}
use Rattle.tasks.specs.declared.table.Table.{Table}
use Rattle.tasks.specs.declared.refusal.Refusal.{Refusal}
use Rattle.tasks.specs.Tables.{lines_of, Numbered}
use Rattle.response.specs.Figures.{Answered, no_lines, declined}
use Rattle.engine.specs.declared.questions.Found.{Found}
use Rattle.engine.specs.declared.state.Setup.{Setup}
use Rattle.engine.specs.declared.state.State.{State}
use Rattle.engine.specs.Jobs.{unused}
use Rattle.engine.specs.Status.{Status, open_lines, task_of, status_of}
use Rattle.engine.specs.Steps.{OfTask, no_table, no_task, of_line}
use Rattle.engine.specs.Lookups.{TaskFound}
use Rattle.engine.proofs.Tasks.{task_at}

-- ---- what is set up, and read through a reference

module _ {s : Option Setup} {r : Option (Bor Setup)} (read : option_copied r ≡ s) where
  pub setup_at : {x : Bor Setup} → r ≡ Some x → s ≡ Some x.now
  setup_at e = sym read ∙ ap option_copied e

  pub lines_at : {x : Bor Setup} → r ≡ Some x → open_lines s ≡ Some (lines_of x.now.table)
  lines_at e = ap open_lines (setup_at e)

  pub no_lines_at : r ≡ None → open_lines s ≡ None
  no_lines_at e = ap open_lines (sym read ∙ ap option_copied e)

-- what is not there is refused with the refusal given
pub told_none : {A : Type 0} {r : Option A} {e d : Refusal} → ◌≡◌ {A = Result A Refusal} (Err e) (ok_or r d) → r ≡ None → e ≡ d
told_none {d = d} p n = cc (ap (λ x. ok_or x d) n)

-- a test for something there
pub none_of : {A : Type 0} (o : Option A) → is_some o ≡ false → o ≡ None
none_of o e = grind arith

pub some_of : {A : Type 0} (o : Option A) → is_some o ≡ true → (x : A) × (o ≡ Some x)
some_of o e = grind arith

-- places that are all 0
pub zeros : (xs : List ℕ) → ((i : ℕ) → get_or xs i 0 ≡ 0) → xs ≡ replicate (length xs) 0
zeros [] all = refl
zeros (x ∷ xs) all = grind (arith, zeros xs (λ k. all (suc k)), all 0)

-- a refusal leaves the places of a shut engine
pub refused_places : (takes : Line → Bool) (demand : Line → ℕ → ℕ) (ls : List Line) (places : List ℕ) (e : Refusal) → Answered takes demand ls places (Err e) → places ≡ replicate 32 0
refused_places takes demand ls places e (no_lines n c) = zeros places c.1 ∙ ap (λ n. replicate n 0) c.0
refused_places takes demand ls places e (declined d c) = zeros places c.1 ∙ ap (λ n. replicate n 0) c.0

-- ---- a task by its number

-- a table has at most 32 lines
pub few_of : (t : Table) → length (lines_of t) ≤ 32
few_of t = omega (arith, t.few, length-take t.len t.lines)

pub few_lines : (s : Option Setup) (ls : List Line) → open_lines s ≡ Some ls → length ls ≤ 32
few_lines s ls e = grind (arith, few_of)

-- a task that was found has a line of the open table, and stands one place before its number
pub record Named (st : Status) (task : ℕ) (x : Found) : Type 0 where
  pub lines : List Line
  pub there : st.lines ≡ Some lines
  pub line : Numbered lines task x.line
  pub place : x.place ≡ task - 1
  pub figure : x.figure ≡ get_or st.figures (task - 1) 0

pub found : (st st' : Status) (task : ℕ) (x : Found) → TaskFound st task (Ok x) st' → Named st task x
found st st' task x (of_line {ls} {l} e n (is, same)) =
    let this : record { place = task - 1; line = l; figure = get_or st.figures (task - 1) 0 } ≡ x = cc in
    record {
      lines = ls;
      there = e;
      line = subst (λ (y : Found). Numbered ls task y.line) this n;
      place = ap (λ (y : Found). y.place) (sym this);
      figure = ap (λ (y : Found). y.figure) (sym this);
    }

module _ (s : State) (task : ℕ) (x : Found) (f : Named (status_of s) task x) where
  -- its record stands at its place
  pub held_at : get_or s.tasks x.place unused ≡ task_of s.tasks task
  held_at = grind (arith, task_at)

  pub place_few : x.place < 32
  place_few = omega (arith, f.place, f.line.0, few_lines s.setup f.lines f.there)

-- where none is found, any call that names the task is refused for the same cause
pub refused : {A : Type 0} (st st' : Status) (task : ℕ) (rule : List Line → Line → Result A Refusal → Status → Type 0) (e : Refusal) → TaskFound st task (Err e) st' → OfTask st task rule (Err e) st
refused st st' task rule e (no_table t n) = no_table t n
refused st st' task rule e (no_task t s n) = no_task t s n
refused st st' task rule e (of_line s n (is, same)) = cc

-- a status by its parts
pub status_eq : (st st' : Status) → st.lines ≡ st'.lines → st.figures ≡ st'.figures → st.ticks ≡ st'.ticks → st.task ≡ st'.task → st ≡ st'
status_eq st st' p q r s = grind arith
