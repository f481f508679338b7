-- No call of an engine has a choice: it has one answer, and leaves one status.
use Rattle.std.proofs.Common.{◌≡◌, ℕ, ◌+◌, ◌<◌, List, Err, Result, sym, refl, ap, ◌∙◌, arith}
use Rattle.std.proofs.lemmas.Grind.{common_steps}
use Rattle.tasks.specs.declared.line.Line.{Line}
use Rattle.tasks.specs.declared.table.Table.{Table}
use Rattle.tasks.specs.declared.refusal.Refusal.{Refusal}
use Rattle.tasks.specs.Refused.{told}
use Rattle.tasks.specs.Tables.{lines_of, Numbered}
use Rattle.policies.specs.Promises.{Meaning}
use Rattle.response.proofs.Single.{answered_one}
use Rattle.engine.specs.declared.state.OpenJob.{OpenJob}
use Rattle.engine.specs.Status.{Status}
use Rattle.engine.specs.Steps.{opened, closed, Opening, already_open, unfit, opens, OfTask, no_table, no_task, of_line, Rested, ReleaseOn, early, still_open, starts, Release, CountsAsked, FigureAsked, Quiet, Turn, TickOn, idles, no_job, unheard, runs, Tick, unopened, spent, ticks, Sole}

-- ---- refusals and lines

-- refusals that tell the same are the same
pub told_one : (e e' : Refusal) (x : ℕ × ℕ × ℕ) → told e ≡ x → told e' ≡ x → e ≡ e'
told_one e e' x p q = grind arith

-- a number names one line
pub same_line : (ls : List Line) (n : ℕ) (l l' : Line) → Numbered ls n l → Numbered ls n l' → l ≡ l'
same_line ls n l l' a b = grind (arith, common_steps)

-- one refusal tells x; it leaves the status
refused_one : {A : Type 0} {e e' : Refusal} {x : ℕ × ℕ × ℕ} {st : Status} → told e ≡ x → told e' ≡ x → (◌≡◌ {A = Result A Refusal} (Err e) (Err e')) × (st ≡ st)
refused_one p q = grind (arith, told_one)

-- ---- opening

-- to open
pub opening_sole : (m : Meaning) (st : Status) (t : Table) → Sole (Opening m st t)
opening_sole m st t r r' s s' (already_open c a) (already_open c' a') = refused_one c c'
opening_sole m st t r r' s s' (already_open c a) (unfit a' x') = cc
opening_sole m st t r r' s s' (already_open c a) (opens a' x') = cc
opening_sole m st t r r' s s' (unfit a x) (already_open c' a') = cc
opening_sole m st t r r' s s' (unfit a x) (unfit a' x') = let one = answered_one _ _ _ _ _ _ _ x x' in (one.0, ap (closed st) one.1)
opening_sole m st t r r' s s' (unfit a x) (opens a' x') = let one = answered_one _ _ _ _ _ _ _ x x' in (cc, cc)
opening_sole m st t r r' s s' (opens a x) (already_open c' a') = cc
opening_sole m st t r r' s s' (opens a x) (unfit a' x') = let one = answered_one _ _ _ _ _ _ _ x x' in (cc, cc)
opening_sole m st t r r' s s' (opens a x) (opens a' x') = let one = answered_one _ _ _ _ _ _ _ x x' in (one.0, ap (opened st (lines_of t)) one.1)

-- ---- calls that name a task

-- by a rule that has no choice
pub of_task_sole : {A : Type 0} (st : Status) (task : ℕ) (rule : List Line → Line → Result A Refusal → Status → Type 0) → ((ls : List Line) (l : Line) → Sole (rule ls l)) → Sole (OfTask st task rule)
of_task_sole st task rule one r r' s s' (no_table c a) (no_table c' a') = refused_one c c'
of_task_sole st task rule one r r' s s' (no_table c a) (no_task c' a' n') = cc
of_task_sole st task rule one r r' s s' (no_table c a) (of_line a' n' x') = cc
of_task_sole st task rule one r r' s s' (no_task c a n) (no_table c' a') = cc
of_task_sole st task rule one r r' s s' (no_task c a n) (no_task c' a' n') = refused_one c c'
of_task_sole st task rule one r r' s s' (no_task {ls} c a n) (of_line {ls = ls'} a' n' x') = let e : ls ≡ ls' = cc in absurd (n (rw e n'.0))
of_task_sole st task rule one r r' s s' (of_line a n x) (no_table c' a') = cc
of_task_sole st task rule one r r' s s' (of_line {ls} a n x) (no_task {ls = ls'} c' a' n') = let e : ls' ≡ ls = cc in absurd (n' (rw e n.0))
of_task_sole st task rule one r r' s s' (of_line {ls} {l} a n x) (of_line {ls = ls'} {l = l'} a' n' x') =
    let e : ls ≡ ls' = cc in
    let f = same_line ls task l l' n (rw e n') in
    one ls l r r' s s' x (rw (e, f) x')

-- no task is early and rested
rested_clash : (st : Status) (task : ℕ) (l : Line) → 0 < (st.task task).releases → st.ticks < (st.task task).last + l.period → Rested st.ticks l (st.task task) → ⊥
rested_clash st task l some soon rested = grind arith

-- to release the task of a line
release_on_sole : (m : Meaning) (st : Status) (task : ℕ) (l : Line) → Sole (ReleaseOn m st task l)
release_on_sole m st task l r r' s s' (early c a b) (early c' a' b') = refused_one c c'
release_on_sole m st task l r r' s s' (early c a b) (still_open c' q' j') = absurd (rested_clash st task l a b q')
release_on_sole m st task l r r' s s' (early c a b) (starts q' j' p') = absurd (rested_clash st task l a b q')
release_on_sole m st task l r r' s s' (still_open c q j) (early c' a' b') = absurd (rested_clash st task l a' b' q)
release_on_sole m st task l r r' s s' (still_open c q j) (still_open c' q' j') = refused_one c c'
release_on_sole m st task l r r' s s' (still_open c q j) (starts q' j' p') = cc
release_on_sole m st task l r r' s s' (starts q j p) (early c' a' b') = absurd (rested_clash st task l a' b' q)
release_on_sole m st task l r r' s s' (starts q j p) (still_open c' q' j') = cc
release_on_sole m st task l r r' s s' (starts q j p) (starts q' j' p') = rw (p, p') (refl, refl)

-- to release a task
pub release_sole : (m : Meaning) (st : Status) (task : ℕ) → Sole (Release m st task)
release_sole m st task = of_task_sole st task _ (λ ls l. release_on_sole m st task l)

-- to answer x and leave the status
answer_sole : {A : Type 0} (x : A) (st : Status) → Sole (λ r st'. (r ≡ x) × (st' ≡ st))
answer_sole x st r r' s s' a b = (a.0 ∙ sym b.0, a.1 ∙ sym b.1)

-- to ask for the counts
pub counts_sole : (st : Status) (task : ℕ) → Sole (CountsAsked st task)
counts_sole st task = of_task_sole st task _ (λ ls l. answer_sole _ st)

-- to ask for a figure
pub figure_sole : (st : Status) (task : ℕ) → Sole (FigureAsked st task)
figure_sole st task = of_task_sole st task _ (λ ls l. answer_sole _ st)

-- ---- ticks

-- where all jobs are closed, none has the turn
quiet_clash : {st : Status} {ls : List Line} {n : ℕ} {l : Line} {o : OpenJob} → Quiet st ls → Turn st ls n l o → ⊥
quiet_clash {n = n} q t = cc (q n t.line.0, t.job)

-- of two tasks that have the turn, the first has not the smaller number
turn_below : {st : Status} {ls : List Line} {n n' : ℕ} {l l' : Line} {o o' : OpenJob} → Turn st ls n l o → Turn st ls n' l' o' → n < n' → ⊥
turn_below {n = n} t t' h = cc (t'.first n t.line.0.0 h, t.job)

-- one job has the turn
turn_one : {st : Status} {ls : List Line} {n n' : ℕ} {l l' : Line} {o o' : OpenJob} → Turn st ls n l o → Turn st ls n' l' o' → (n ≡ n') × (l ≡ l') × (o ≡ o')
turn_one t t' = grind (arith, same_line)

-- a tick of an open engine that has ticks left
tick_on_sole : (m : Meaning) (st : Status) (ls : List Line) (word : ℕ) → Sole (TickOn m st ls word)
tick_on_sole m st ls w r r' s s' (idles q z) (idles q' z') = (refl, refl)
tick_on_sole m st ls w r r' s s' (idles q z) (no_job c' q' z') = absurd (omega arith)
tick_on_sole m st ls w r r' s s' (idles q z) (unheard c' t' h') = absurd (quiet_clash q t')
tick_on_sole m st ls w r r' s s' (idles q z) (runs t' h') = absurd (quiet_clash q t')
tick_on_sole m st ls w r r' s s' (no_job c q z) (idles q' z') = absurd (omega arith)
tick_on_sole m st ls w r r' s s' (no_job c q z) (no_job c' q' z') = refused_one c c'
tick_on_sole m st ls w r r' s s' (no_job c q z) (unheard c' t' h') = refused_one c c'
tick_on_sole m st ls w r r' s s' (no_job c q z) (runs t' h') = absurd (quiet_clash q t')
tick_on_sole m st ls w r r' s s' (unheard c t h) (idles q' z') = absurd (quiet_clash q' t)
tick_on_sole m st ls w r r' s s' (unheard c t h) (no_job c' q' z') = refused_one c c'
tick_on_sole m st ls w r r' s s' (unheard c t h) (unheard c' t' h') = refused_one c c'
tick_on_sole m st ls w r r' s s' (unheard c t h) (runs t' h') = let one = turn_one t t' in (cc, cc)
tick_on_sole m st ls w r r' s s' (runs t h) (idles q' z') = absurd (quiet_clash q' t)
tick_on_sole m st ls w r r' s s' (runs t h) (no_job c' q' z') = absurd (quiet_clash q' t)
tick_on_sole m st ls w r r' s s' (runs t h) (unheard c' t' h') = let one = turn_one t t' in (cc, cc)
tick_on_sole m st ls w r r' s s' (runs {x = x} t h) (runs {x = x'} t' h') =
    let one = turn_one t t' in
    let out : x ≡ x' = cc in
    rw (one.0, one.1, one.2, out) (refl, refl)

-- a tick
pub tick_sole : (m : Meaning) (st : Status) (word : ℕ) → Sole (Tick m st word)
tick_sole m st w r r' s s' (unopened c a) (unopened c' a') = refused_one c c'
tick_sole m st w r r' s s' (unopened c a) (spent c' a' f') = cc
tick_sole m st w r r' s s' (unopened c a) (ticks a' f' x') = cc
tick_sole m st w r r' s s' (spent c a f) (unopened c' a') = cc
tick_sole m st w r r' s s' (spent c a f) (spent c' a' f') = refused_one c c'
tick_sole m st w r r' s s' (spent c a f) (ticks a' f' x') = absurd (omega arith)
tick_sole m st w r r' s s' (ticks a f x) (unopened c' a') = cc
tick_sole m st w r r' s s' (ticks a f x) (spent c' a' f') = absurd (omega arith)
tick_sole m st w r r' s s' (ticks {ls} a f x) (ticks {ls = ls'} a' f' x') = let e : ls ≡ ls' = cc in tick_on_sole m st ls w r r' s s' x (rw e x')
