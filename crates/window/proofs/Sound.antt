-- What is carried from call to call of tasks under a policy, and what it gives: jobs in time, and enough right endings.
use Rattle.std.proofs.Common.{◌≡◌, ℕ, ◌+◌, ◌<◌, ◌≤◌, true, ◌≢◌, ◌⊎◌, List, [], ◌++◌, length, sym, refl, ap, subst, ⊎_elim, append_assoc, arith, length-append}
use Rattle.std.proofs.lemmas.Bool.{cases_eq}
use Rattle.tasks.specs.declared.line.Line.{Line}
use Rattle.tasks.specs.declared.job.Plan.{Plan}
use Rattle.tasks.specs.declared.job.Ending.{Ending}
use Rattle.tasks.specs.declared.job.Outcome.{Outcome}
use Rattle.policies.specs.Runs.{rights}
use Rattle.policies.specs.Promises.{Meaning, Promises}
use Rattle.window.proofs.Pending.{Pending, free, busy, due, added, just_released, Ticks, Meets}
use Rattle.window.proofs.Sums.{by_place}
use Rattle.window.proofs.Costs.{run_prefix}
use Rattle.window.proofs.Task.{Task, free_from_left, plan_after, Good, Ticked, ticked_done, Started}
use Rattle.window.proofs.Levels.{Level, level_quiet, level_start, level_tick, level_young}
use Rattle.window.proofs.Steps.{good_tick, good_start, started}

-- tasks with the same endings, job and last release are the same
pub task_eq : (t t' : Task) → t.done ≡ t'.done → t.job ≡ t'.job → t.last ≡ t'.last → t ≡ t'
task_eq t t' p q r = λ i. record { done = p i; job = q i; last = r i }

-- n tasks with their lines and response figures, after `now` ticks; freed is how often each was released.
-- Each level whose task has a figure above 0 is in a busy window, and every release has its ending, past or due.
pub record Sound (m : Meaning) (n : ℕ) (line : ℕ → Line) (figure : ℕ → ℕ) (now : ℕ) (t : ℕ → Task) (freed : ℕ → ℕ) : Type 0 where
  pub good : (h : ℕ) → h < n → Good m (line h) now (t h)
  pub levels : (i : ℕ) → i < n → 0 < figure i → Level m line i (figure i) now t
  pub counted : (h : ℕ) → freed h ≡ length (t h).done + length (due (t h).job)

-- a task that was never released
abbrev pub unused : Task
unused = record { done = []; job = free; last = 0 }

-- it still holds a tick later
later_good : (m : Meaning) (l : Line) (now : ℕ) (t : Task) → Good m l now t → Good m l (now + 1) t
later_good m l now t g = record { run = g.run; fits = g.fits; past = omega (arith, g.past) }

-- at most one ending is due
due_short : (s : Pending) → length (due s) ≤ 1
due_short free = omega arith
due_short (busy p e k) = omega arith

-- of tasks whose lines the policy takes, with figures that meet their loads
module _ (m : Meaning) (promises : Promises m) (n : ℕ) (line : ℕ → Line)
    (taken : (h : ℕ) → h < n → m.takes (line h) ≡ true) (figure : ℕ → ℕ) (figures : (i : ℕ) → i < n → Meets m line i (figure i)) where
  -- at the opening, whenever it is: no task was released
  pub sound_opened : (now : ℕ) (t : ℕ → Task) (freed : ℕ → ℕ) → ((h : ℕ) → t h ≡ unused) → ((h : ℕ) → freed h ≡ 0) → Sound m n line figure now t freed
  sound_opened now t freed none zero = record {
    good = λ h k. subst (Good m (line h) now) (sym (none h)) (record { run = tt; fits = tt; past = omega arith });
    levels = λ i k pos. level_quiet m line i (figure i) now t pos (λ h l. ap (λ (x : Task). x.job) (none h));
    counted = λ h. omega (arith, zero h, ap (λ (x : Task). length x.done) (none h), ap (λ (x : Task). length (due x.job)) (none h));
  }

  -- a tick while no task has a job
  pub sound_idle : (now : ℕ) (t : ℕ → Task) (freed : ℕ → ℕ) → Sound m n line figure now t freed → ((h : ℕ) → h < n → (t h).job ≡ free) → Sound m n line figure (now + 1) t freed
  sound_idle now t freed s quiet = record {
    good = λ h k. later_good m (line h) now (t h) (s.good h k);
    levels = λ i k pos. level_quiet m line i (figure i) (now + 1) t pos (λ h l. quiet h (omega arith));
    counted = s.counted;
  }

  -- a release of task i, which has no job, for the first time or a period after its last one
  pub sound_release : (now : ℕ) (t t' : ℕ → Task) (freed freed' : ℕ → ℕ) (i : ℕ) (p : Plan) → Sound m n line figure now t freed → i < n → (t i).job ≡ free
      → (freed i ≡ 0) ⊎ ((t i).last + (line i).period ≤ now) → p ≡ plan_after m (line i) (t i).done
      → t' i ≡ record { done = (t i).done; job = just_released (line i) p; last = now } → ((h : ℕ) → h ≢ i → t' h ≡ t h)
      → freed' i ≡ freed i + 1 → ((h : ℕ) → h ≢ i → freed' h ≡ freed h) → Sound m n line figure now t' freed'
  sound_release now t t' freed freed' i p s inside was ready planned is others more same = record {
    good = by_place (λ h. h < n → Good m (line h) now (t' h)) i
        (λ k. subst (Good m (line i) now) (sym is) (good_start m (line i) now (t i) p (just_released (line i) p) now (s.good i inside) planned refl refl))
        (λ h ne k. rw (others h ne) (s.good h k));
    levels = λ j k pos. level_start m line j (figure j) now t t' i (s.levels j k pos) others
        (subst (Started m (line i) now (t i)) (sym is) (started m (line i) now (t i) p (just_released (line i) p) now was planned refl refl gate));
    counted = by_place (λ h. freed' h ≡ length (t' h).done + length (due (t' h).job)) i
        (omega (arith, more, s.counted i, ap (λ x. length (due x)) was, ap (λ (x : Task). length x.done) is, ap (λ (x : Task). length (due x.job)) is))
        (λ h ne. omega (arith, same h ne, s.counted h, ap (λ (x : Task). length x.done) (others h ne), ap (λ (x : Task). length (due x.job)) (others h ne)));
  }
    where
      gate : 0 < length (t i).done → (t i).last + (line i).period ≤ now
      gate l = ⊎_elim (λ (z : freed i ≡ 0). absurd (omega (arith, s.counted i))) (λ r. r) ready

  -- a tick to task i, while the tasks above it have no job
  pub sound_tick : (now : ℕ) (t t' : ℕ → Task) (freed : ℕ → ℕ) (i : ℕ) (o : Outcome) (s' : Pending) → Sound m n line figure now t freed → i < n → ((h : ℕ) → h < i → (t h).job ≡ free)
      → Ticks (line i) (t i).job o s' → t' i ≡ record { done = (t i).done ++ added o; job = s'; last = (t i).last } → ((h : ℕ) → h ≢ i → t' h ≡ t h)
      → Sound m n line figure (now + 1) t' freed
  sound_tick now t t' freed i o s' s inside above step is others = record {
    good = λ h k. later_good m (line h) now (t' h) (good h k);
    levels = λ j k pos. level_tick m promises line j (figure j) now t t' i pos
        (figures j k pos).0 (figures j k pos).1 (λ h l. taken h (omega arith)) (λ h l. good h (omega arith)) (s.levels j k pos) others at above
        (λ h l z. free_from_left (plan_after m (line h) (t' h).done) (t' h).job (good h (omega arith)).fits z);
    counted = by_place (λ h. freed h ≡ length (t' h).done + length (due (t' h).job)) i
        (omega (arith, s.counted i, at.count, ap length at.grown, length-append (t i).done at.tail))
        (λ h ne. omega (arith, s.counted h, ap (λ (x : Task). length x.done) (others h ne), ap (λ (x : Task). length (due x.job)) (others h ne)));
  }
    where
      at : Ticked m (line i) (t i) (t' i)
      at = subst (Ticked m (line i) (t i)) (sym is) (ticked_done m (line i) now (t i) o s' (s.good i inside) step ((t i).done ++ added o) refl)

      good : (h : ℕ) → h < n → Good m (line h) now (t' h)
      good = by_place (λ h. h < n → Good m (line h) now (t' h)) i
          (λ k. subst (Good m (line i) now) (sym is) (good_tick m (line i) now (t i) o s' (s.good i inside) step ((t i).done ++ added o) refl))
          (λ h ne k. rw (others h ne) (s.good h k))

  -- a job is over once as many ticks as the figure says have followed its release
  pub sound_in_time : (now : ℕ) (t : ℕ → Task) (freed : ℕ → ℕ) → Sound m n line figure now t freed → (i : ℕ) → i < n → 0 < figure i → (t i).last + figure i ≤ now → freed i ≡ length (t i).done
  sound_in_time now t freed s i k pos late = ⊎_elim
      (λ (z : length (due (t i).job) ≡ 0). omega (arith, s.counted i))
      (λ (nz : length (due (t i).job) ≡ 0 → ⊥).
      let one : length (due (t i).job) ≡ 1 = omega (arith, due_short (t i).job) in
      absurd (omega (arith, level_young m promises line i (figure i) now t (s.levels i k pos) one)))
      (cases_eq (length (due (t i).job)) 0)

  -- of any k endings in a row at least m are right
  pub sound_reliable : (now : ℕ) (t : ℕ → Task) (freed : ℕ → ℕ) → Sound m n line figure now t freed → (i : ℕ) → i < n
      → (before window after : List Ending) → (t i).done ≡ before ++ (window ++ after) → length window ≡ (line i).k → (line i).m ≤ rights window
  sound_reliable now t freed s i k before window after e many = (promises (line i) (taken i k)).reliable before window
      (run_prefix (m.plan (line i)) (m.next (line i)) 0 (before ++ window) after (rw (append_assoc before window after) (rw e at (s.good i k).run))) many
