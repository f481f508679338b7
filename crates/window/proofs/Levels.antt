-- The level of a task, that is the task and those above it, and its busy window.
--
-- A window of level i starts when none of its tasks has a job. One balance is kept: the ticks since the start and the
-- ticks left of the level's open jobs are together at most the work of its jobs since the start. A tick to the level
-- takes one off the ticks left, and a release adds no more to them than to the work, so both keep the balance.
-- Whenever no job of the level is open, nothing is left and no ending is due: a window can start anew, whatever went
-- before, and a tick to a task below the level comes only then. Otherwise at least one tick is left. While
-- now < start + r, a task h has at most r ÷ T jobs in the window, rounded up, and task i one, for r is within its
-- period; so by the promises the work is at most the load, which is at most r, and the balance gives
-- now < start + r after the tick as well. An open job of task i was released in the window: less than r ticks ago.
use Rattle.std.proofs.Common.{◌≡◌, ℕ, suc, ◌+◌, ◌-◌, ◌*◌, ◌<◌, ◌≤◌, true, ◌≢◌, List, [], length, sym, refl, ap, ⊎_elim, append-nil, arith}
use Rattle.std.proofs.lemmas.Bool.{cases_eq, cases_lt}
use Rattle.std.proofs.lemmas.Nat.{le-div, div_below}
use Rattle.words.specs.Patterns.{up}
use Rattle.tasks.specs.declared.line.Line.{Line}
use Rattle.tasks.specs.declared.job.Ending.{Ending}
use Rattle.policies.specs.Promises.{Meaning, jobs_end, Promises}
use Rattle.window.proofs.Pending.{free, due, left, upto, load}
use Rattle.window.proofs.Sums.{shift, shift_one, upto_zero, upto_none, by_place}
use Rattle.window.proofs.Task.{Task, full, work, Good, Ticked, Started, Window, window_tick, window_start, held}

-- less than r ticks after the start, at most r ÷ T jobs were released, rounded up
pub jobs_bound : (n r period start last now : ℕ) → 1 ≤ period → last ≤ now → now < start + r → (0 < n → start + n * period ≤ last + period) → n ≤ up r period
jobs_bound n r period start last now pos le short gap = ⊎_elim
    (λ (z : n ≡ 0). omega arith)
    (λ (nz : n ≡ 0 → ⊥). let g = gap (omega arith) in le-div n (r + (period - 1)) period pos (omega arith))
    (cases_eq n 0)

-- r ÷ T rounded up is at most 1 where r is within the period
pub up_one : (r period : ℕ) → 1 ≤ period → r ≤ period → up r period ≤ 1
up_one r period pos le = omega (arith, div_below (r + (period - 1)) period 2 pos (omega arith))

-- so few jobs may be asked for
pub up_small : (r period : ℕ) → r ≤ 1000000 → period ≤ 1000000 → up r period < jobs_end
up_small r period a b = omega arith

module _ (m : Meaning) (line : ℕ → Line) where
  -- level i is in a window that started less than r ticks ago
  pub record Level (i r now : ℕ) (t : ℕ → Task) : Type 0 where
    pub start : ℕ
    -- the endings of each task before the start
    pub old : ℕ → List Ending
    pub began : start ≤ now
    pub short : now < start + r
    pub each : (h : ℕ) → h < suc i → Window (line h) start (old h) (t h)
    -- the time since the start, with the ticks left, is at most the work since the start
    pub balance : now + (upto (suc i) (λ h. left (t h).job) + upto (suc i) (λ h. work m (line h) (old h))) ≤ start + upto (suc i) (λ h. work m (line h) (full (t h)))

  -- where no job of the level is open, a window starts
  pub level_quiet : (i r now : ℕ) (t : ℕ → Task) → 0 < r → ((h : ℕ) → h < suc i → (t h).job ≡ free) → Level i r now t
  level_quiet i r now t pos quiet = record {
    start = now;
    old = λ h. (t h).done;
    began = omega arith;
    short = omega arith;
    each = λ h k. record { rest = []; grown = sym (append-nil (t h).done); gap = λ p. absurd (omega (arith, p, ap (λ s. length (due s)) (quiet h k))) };
    balance =
        let none : (h : ℕ) → h < suc i → left (t h).job + work m (line h) (t h).done ≤ work m (line h) (full (t h)) + 0 = λ h k. rw (quiet h k, append-nil) (omega arith) in
        omega (arith, shift (suc i) (λ h. left (t h).job) (λ h. work m (line h) (t h).done) (λ h. work m (line h) (full (t h))) (λ h. 0) none, upto_zero (suc i) (λ h. 0) (λ h k. refl));
  }

  -- a release, of a task of the level or not
  pub level_start : (i r now : ℕ) (t t' : ℕ → Task) (j : ℕ) → Level i r now t → ((h : ℕ) → h ≢ j → t' h ≡ t h) → Started m (line j) now (t j) (t' j) → Level i r now t'
  level_start i r now t t' j lv others at = record {
    start = lv.start;
    old = lv.old;
    began = lv.began;
    short = lv.short;
    each = by_place (λ h. h < suc i → Window (line h) lv.start (lv.old h) (t' h)) j
        (λ k. window_start m (line j) now lv.start (lv.old j) (t j) (t' j) lv.began (lv.each j k) at)
        (λ h ne k. rw (others h ne) (lv.each h k));
    balance = omega (arith, lv.balance, shift (suc i) (λ h. left (t' h).job) (λ h. work m (line h) (full (t h))) (λ h. left (t h).job) (λ h. work m (line h) (full (t' h))) gains);
  }
    where
      gains : (h : ℕ) → h < suc i → left (t' h).job + work m (line h) (full (t h)) ≤ left (t h).job + work m (line h) (full (t' h))
      gains = by_place (λ h. h < suc i → left (t' h).job + work m (line h) (full (t h)) ≤ left (t h).job + work m (line h) (full (t' h))) j
          (λ k. at.gain)
          (λ h ne k. rw (others h ne) (omega arith))

module _ (m : Meaning) (promises : Promises m) (line : ℕ → Line) where
  -- the work of the level since the start is within its load, and so within r
  pub level_held : (i r now start : ℕ) (old : ℕ → List Ending) (t : ℕ → Task) → r ≤ (line i).period → load m line i r ≤ r → now < start + r
      → ((h : ℕ) → h < suc i → m.takes (line h) ≡ true) → ((h : ℕ) → h < suc i → Good m (line h) now (t h)) → ((h : ℕ) → h < suc i → Window (line h) start (old h) (t h))
      → upto (suc i) (λ h. work m (line h) (full (t h))) ≤ upto (suc i) (λ h. work m (line h) (old h)) + r
  level_held i r now start old t le fits short tk good each =
      let low : (h : ℕ) → h < i → work m (line h) (full (t h)) + 0 ≤ work m (line h) (old h) + m.demand (line h) (up r (line h).period) = λ h k.
      omega (arith, held m promises (line h) now start (old h) (t h) (up r (line h).period) (tk h (omega arith)) (good h (omega arith)) (each h (omega arith)) (jobs h (omega arith)) (small h)) in
      let top : work m (line i) (full (t i)) ≤ work m (line i) (old i) + m.demand (line i) 1 =
      held m promises (line i) now start (old i) (t i) 1 (tk i (omega arith)) (good i (omega arith)) (each i (omega arith)) (omega (arith, jobs i (omega arith), up_one r (line i).period (pos i) le)) (omega arith) in
      omega (arith, shift i (λ h. work m (line h) (full (t h))) (λ h. 0) (λ h. work m (line h) (old h)) (λ h. m.demand (line h) (up r (line h).period)) low)
    where
      pos : (h : ℕ) → 1 ≤ (line h).period
      pos h = omega (arith, (line h).ordered)

      small : (h : ℕ) → up r (line h).period < jobs_end
      small h = up_small r (line h).period (omega (arith, (line i).ordered)) (omega (arith, (line h).ordered))

      jobs : (h : ℕ) (k : h < suc i) → length (each h k).rest + length (due (t h).job) ≤ up r (line h).period
      jobs h k = jobs_bound (length (each h k).rest + length (due (t h).job)) r (line h).period start (t h).last now (pos h) (good h k).past short (each h k).gap

  -- a tick to task j, while the tasks above it have no job
  pub level_tick : (i r now : ℕ) (t t' : ℕ → Task) (j : ℕ) → 0 < r → r ≤ (line i).period → load m line i r ≤ r
      → ((h : ℕ) → h < suc i → m.takes (line h) ≡ true) → ((h : ℕ) → h < suc i → Good m (line h) now (t' h))
      → Level m line i r now t → ((h : ℕ) → h ≢ j → t' h ≡ t h) → Ticked m (line j) (t j) (t' j) → ((h : ℕ) → h < j → (t h).job ≡ free)
      → ((h : ℕ) → h < suc i → left (t' h).job ≡ 0 → (t' h).job ≡ free)
      → Level m line i r (now + 1) t'
  level_tick i r now t t' j pos le fits tk good lv others at above free-at = ⊎_elim below level (cases_lt i j)
    where
      below : i < j → Level m line i r (now + 1) t'
      below l = level_quiet m line i r (now + 1) t' pos (λ h k. rw (others h (omega arith)) (above h (omega arith)))

      each : (h : ℕ) → h < suc i → Window (line h) lv.start (lv.old h) (t' h)
      each = by_place (λ h. h < suc i → Window (line h) lv.start (lv.old h) (t' h)) j
          (λ k. window_tick m (line j) now lv.start (lv.old j) (t j) (t' j) (lv.each j k) at)
          (λ h ne k. rw (others h ne) (lv.each h k))

      gains : (h : ℕ) → h < suc i → left (t' h).job + work m (line h) (full (t h)) ≤ left (t h).job + work m (line h) (full (t' h))
      gains = by_place (λ h. h < suc i → left (t' h).job + work m (line h) (full (t h)) ≤ left (t h).job + work m (line h) (full (t' h))) j
          (λ k. omega (arith, at.gain))
          (λ h ne k. rw (others h ne) (omega arith))

      level : j ≤ i → Level m line i r (now + 1) t'
      level l =
          let sum = shift_one (suc i) (λ h. left (t' h).job) (λ h. work m (line h) (full (t h))) (λ h. left (t h).job) (λ h. work m (line h) (full (t' h))) j (omega arith) gains at.gain in
          let bound = level_held i r now lv.start lv.old t' le fits lv.short tk good each in
          let balance : now + 1 + (upto (suc i) (λ h. left (t' h).job) + upto (suc i) (λ h. work m (line h) (lv.old h))) ≤ lv.start + upto (suc i) (λ h. work m (line h) (full (t' h))) = omega (arith, lv.balance, sum) in
          ⊎_elim
          (λ (z : upto (suc i) (λ h. left (t' h).job) ≡ 0). level_quiet m line i r (now + 1) t' pos (λ h k. free-at h k (upto_none (suc i) (λ h. left (t' h).job) z h k)))
          (λ (nz : upto (suc i) (λ h. left (t' h).job) ≡ 0 → ⊥). record {
            start = lv.start;
            old = lv.old;
            began = omega (arith, lv.began);
            short = omega (arith, bound, balance, nz);
            each = each;
            balance = balance;
          })
          (cases_eq (upto (suc i) (λ h. left (t' h).job)) 0)

  -- an open job of task i was released less than r ticks ago
  pub level_young : (i r now : ℕ) (t : ℕ → Task) → Level m line i r now t → length (due (t i).job) ≡ 1 → now < (t i).last + r
  level_young i r now t lv one =
      let w = lv.each i (omega arith) in
      let g = w.gap (omega arith) in
      omega (arith, rw one at g, lv.short)
