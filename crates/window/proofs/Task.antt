-- One task: its jobs, what a tick and a release change, and its jobs since the start of a busy window.
use Rattle.std.proofs.Common.{◌≡◌, ℕ, ◌+◌, ◌*◌, ◌<◌, ◌≤◌, true, List, [], ◌∷◌, ◌++◌, length, refl, ap, ◌∙◌, ⊎_elim, append_assoc, append-nil, arith, length-append}
use Rattle.std.proofs.lemmas.Bool.{cases_eq}
use Rattle.tasks.specs.declared.line.Line.{Line}
use Rattle.tasks.specs.declared.job.Plan.{Plan}
use Rattle.tasks.specs.declared.job.Plan.TheVariants.{Detect, Recover}
use Rattle.tasks.specs.declared.job.Ending.{Ending}
use Rattle.tasks.specs.declared.job.Ending.TheVariants.{Clean, Bad, Sure}
use Rattle.tasks.specs.declared.job.Outcome.{Outcome}
use Rattle.policies.specs.Endings.{Allows, cost}
use Rattle.policies.specs.Runs.{Run, mark_after, costs}
use Rattle.policies.specs.Promises.{Meaning, jobs_end, Promises}
use Rattle.window.proofs.Pending.{Pending, free, busy, due, left, added, Ticks, goes_on, ends_due, ends_bad, recovers}
use Rattle.window.proofs.Costs.{costs_append, run_push}

-- a task: the endings of its jobs so far, oldest first, its open job, and the ticks accepted at its last release
pub record Task : Type 0 where
  pub done : List Ending
  pub job : Pending
  pub last : ℕ

-- the endings so far and the one that is due
abbrev pub full : Task → List Ending
full t = t.done ++ due t.job

-- an open job has the plan p of its mark, an ending due that the plan allows, and a tick left
abbrev pub Fits : Plan → Pending → Type 0
Fits p free = Unit {0}
Fits p (busy q e k) = (p ≡ q) × Allows q e × (1 ≤ k)

-- a job with no tick left is none
pub free_from_left : (p : Plan) (s : Pending) → Fits p s → left s ≡ 0 → s ≡ free
free_from_left p free f z = refl
free_from_left p (busy q e k) f z = absurd (omega (arith, f.2))

module _ (m : Meaning) where
  -- what the jobs that end so cost together, from the first on
  abbrev pub work : Line → List Ending → ℕ
  work l es = costs (m.plan l) (m.next l) l 0 es

  -- the plan of the next job after the endings
  abbrev pub plan_after : Line → List Ending → Plan
  plan_after l es = m.plan l (mark_after (m.plan l) (m.next l) 0 es)

  -- what holds of a task at all times: its endings are a run, its job has the plan then, its last release is not ahead
  pub record Good (l : Line) (now : ℕ) (t : Task) : Type 0 where
    pub run : Run (m.plan l) (m.next l) 0 t.done
    pub fits : Fits (plan_after l t.done) t.job
    pub past : t.last ≤ now

  -- the endings so far and the due one are a run
  pub run_full : (l : Line) (now : ℕ) (t : Task) → Good l now t → Run (m.plan l) (m.next l) 0 (full t)
  run_full l now t g = by_job t.job g.fits
    where
      by_job : (s : Pending) → Fits (plan_after l t.done) s → Run (m.plan l) (m.next l) 0 (t.done ++ due s)
      by_job free f = rw append-nil g.run
      by_job (busy q e k) f = run_push (m.plan l) (m.next l) 0 t.done e g.run (rw f.0 f.1)

  -- A task that got a tick: its job goes on, or its ending now stands among those so far, and there is no release.
  -- The ticks left fall by one at least, but for those by which the work of its jobs grows, as in a recovery.
  pub record Ticked (l : Line) (t t' : Task) : Type 0 where
    pub tail : List Ending
    pub grown : t'.done ≡ t.done ++ tail
    pub count : length tail + length (due t'.job) ≡ length (due t.job)
    pub kept : t'.last ≡ t.last
    pub gain : 1 + (left t'.job + work l (full t)) ≤ left t.job + work l (full t')

  -- one ending more costs what it costs under the plan then
  pub work_push : (l : Line) (es : List Ending) (p : Plan) (e : Ending) → plan_after l es ≡ p → work l (es ++ e ∷ []) ≡ work l es + cost l p e
  work_push l es p e h = costs_append (m.plan l) (m.next l) l 0 es (e ∷ []) ∙ rw h (omega arith)

  -- a tick, in each of its four forms
  pub ticked_done : (l : Line) (now : ℕ) (t : Task) (o : Outcome) (s' : Pending) → Good l now t → Ticks l t.job o s'
      → (d : List Ending) → d ≡ t.done ++ added o → Ticked l t (record { done = d; job = s'; last = t.last })
  ticked_done l now t o s' g k d e = by_job t.job o s' g.fits k d e
    where
      by_job : (s : Pending) (o : Outcome) (s' : Pending) → Fits (plan_after l t.done) s → Ticks l s o s' → (d : List Ending) → d ≡ t.done ++ added o
          → Ticked l (record { done = t.done; job = s; last = t.last }) (record { done = d; job = s'; last = t.last })
      by_job s o s' f (goes_on p e k h) d eq = record { tail = []; grown = eq; count = refl; kept = refl; gain = simp (eq, append-nil) (omega arith) }
      by_job s o s' f (ends_due p e k h) d eq = record { tail = e ∷ []; grown = eq; count = refl; kept = refl; gain = simp (eq, append-nil) (omega arith) }
      by_job s o s' f (ends_bad k h) d eq = record { tail = Bad ∷ []; grown = eq; count = refl; kept = refl; gain = simp (eq, append-nil) (omega (arith, work_push l t.done Detect Clean f.0, work_push l t.done Detect Bad f.0)) }
      by_job s o s' f (recovers k h) d eq = record { tail = []; grown = eq; count = refl; kept = refl; gain = simp (eq, append-nil) (omega (arith, work_push l t.done Recover Clean f.0, work_push l t.done Recover Sure f.0)) }

  -- A task that was released at `now`: it had no job, and a period has passed since its last release if it had one.
  -- The ticks left grow by no more than the work of its jobs.
  pub record Started (l : Line) (now : ℕ) (t t' : Task) : Type 0 where
    pub same : t'.done ≡ t.done
    pub was : length (due t.job) ≡ 0
    pub is : length (due t'.job) ≡ 1
    pub new : t'.last ≡ now
    pub gate : 0 < length t.done → t.last + l.period ≤ now
    pub gain : left t'.job + work l (full t) ≤ left t.job + work l (full t')

-- The jobs of a task since `start`, before which its endings were `old`: n of them, of which the last may be open,
-- were released a period apart, so the last release is at least n - 1 periods after the start.
pub record Window (l : Line) (start : ℕ) (old : List Ending) (t : Task) : Type 0 where
  pub rest : List Ending
  pub grown : t.done ≡ old ++ rest
  pub gap : 0 < length rest + length (due t.job) → start + (length rest + length (due t.job)) * l.period ≤ t.last + l.period

module _ (m : Meaning) (l : Line) (now start : ℕ) (old : List Ending) (t t' : Task) where
  -- a tick releases no job
  pub window_tick : Window l start old t → Ticked m l t t' → Window l start old t'
  window_tick w k = record {
    rest = w.rest ++ k.tail;
    grown = k.grown ∙ ap (λ x. x ++ k.tail) w.grown ∙ append_assoc old w.rest k.tail;
    gap = λ (p : 0 < length (w.rest ++ k.tail) + length (due t'.job)).
        let n : length (w.rest ++ k.tail) + length (due t'.job) ≡ length w.rest + length (due t.job) = omega (arith, length-append w.rest k.tail, k.count) in
        let g = w.gap (omega arith) in
        rw n (omega (arith, g, k.kept));
  }

  -- a release adds a job to the window
  pub window_start : start ≤ now → Window l start old t → Started m l now t t' → Window l start old t'
  window_start b w k = record {
    rest = w.rest;
    grown = k.same ∙ w.grown;
    gap = λ (p : 0 < length w.rest + length (due t'.job)). ⊎_elim first_job later_job (cases_eq (length w.rest) 0);
  }
    where
      done : length t.done ≡ length old + length w.rest
      done = ap length w.grown ∙ length-append old w.rest

      first_job : length w.rest ≡ 0 → start + (length w.rest + length (due t'.job)) * l.period ≤ t'.last + l.period
      first_job z = rw (z, k.is, k.new) (omega arith)

      later_job : (length w.rest ≡ 0 → ⊥) → start + (length w.rest + length (due t'.job)) * l.period ≤ t'.last + l.period
      later_job nz =
          let g = w.gap (omega arith) in
          let r = k.gate (omega (arith, done)) in
          rw (k.is, k.new) (omega (arith, rw k.was at g, r))

module _ (m : Meaning) (promises : Promises m) where
  -- the jobs of a window cost at most the demand of that many
  pub held : (l : Line) (now start : ℕ) (old : List Ending) (t : Task) (n : ℕ) → m.takes l ≡ true → Good m l now t → (w : Window l start old t)
      → length w.rest + length (due t.job) ≤ n → n < jobs_end → work m l (full t) ≤ work m l old + m.demand l n
  held l now start old t n tk g w le small =
      let row : List Ending = w.rest ++ due t.job in
      let many = length-append w.rest (due t.job) in
      let same : full t ≡ old ++ row = ap (λ x. x ++ due t.job) w.grown ∙ append_assoc old w.rest (due t.job) in
      let run : Run (m.plan l) (m.next l) 0 (old ++ row) = rw same at (run_full m l now t g) in
      let cost = (promises l tk).bounded old row run (omega arith) in
      let more = (promises l tk).rising (length row) n (omega arith) small in
      let split = costs_append (m.plan l) (m.next l) l 0 old row in
      rw same (omega arith)
