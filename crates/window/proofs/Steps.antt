-- What holds of a task at all times is kept by a tick and by a release.
use Rattle.std.proofs.Common.{◌≡◌, ℕ, ◌+◌, ◌<◌, ◌≤◌, List, ◌++◌, length, sym, refl, append-nil, arith}
use Rattle.tasks.specs.declared.line.Line.{Line}
use Rattle.tasks.specs.declared.job.Plan.{Plan}
use Rattle.tasks.specs.declared.job.Plan.TheVariants.{Bare, Detect, Correct, Recover}
use Rattle.tasks.specs.declared.job.Ending.{Ending}
use Rattle.tasks.specs.declared.job.Ending.TheVariants.{Blind, Clean, Bad, Sure}
use Rattle.tasks.specs.declared.job.Outcome.{Outcome}
use Rattle.policies.specs.Endings.{cost, Allows, bare_blind, detect_clean, detect_bad, correct_sure, recover_clean, recover_sure}
use Rattle.policies.specs.Promises.{Meaning}
use Rattle.window.proofs.Pending.{Pending, free, added, Ticks, goes_on, ends_due, ends_bad, recovers, first_ending, due_time, just_released}
use Rattle.window.proofs.Costs.{run_push}
use Rattle.window.proofs.Task.{Task, Fits, work_push, plan_after, Good, Started}

-- a plan allows the ending of its first version
pub first_ending_allowed : (p : Plan) → Allows p (first_ending p)
first_ending_allowed Bare = bare_blind
first_ending_allowed Detect = detect_clean
first_ending_allowed Correct = correct_sure
first_ending_allowed Recover = recover_clean

-- a job that ends so costs what that version takes
pub first_ending_cost : (l : Line) (p : Plan) → cost l p (first_ending p) ≡ due_time l (first_ending p)
first_ending_cost l Bare = refl
first_ending_cost l Detect = refl
first_ending_cost l Correct = refl
first_ending_cost l Recover = refl

-- every version takes a tick at least
pub due_time_pos : (l : Line) (e : Ending) → 1 ≤ due_time l e
due_time_pos l Blind = omega (arith, l.ordered)
due_time_pos l Clean = omega (arith, l.ordered)
due_time_pos l Bad = omega (arith, l.ordered)
due_time_pos l Sure = omega (arith, l.ordered)

module _ (m : Meaning) where
  -- by a tick
  pub good_tick : (l : Line) (now : ℕ) (t : Task) (o : Outcome) (s' : Pending) → Good m l now t → Ticks l t.job o s'
      → (d : List Ending) → d ≡ t.done ++ added o → Good m l now (record { done = d; job = s'; last = t.last })
  good_tick l now t o s' g k d e = by_job t.job o s' g.fits k d e
    where
      by_job : (s : Pending) (o : Outcome) (s' : Pending) → Fits (plan_after m l t.done) s → Ticks l s o s' → (d : List Ending) → d ≡ t.done ++ added o
          → Good m l now (record { done = d; job = s'; last = t.last })
      by_job s o s' f (goes_on p e k h) d eq = record { run = rw (eq, append-nil) g.run; fits = (rw (eq, append-nil) f.0, f.1, h); past = g.past }
      by_job s o s' f (ends_due p e k h) d eq = record { run = rw eq (run_push (m.plan l) (m.next l) 0 t.done e g.run (rw f.0 f.1)); fits = tt; past = g.past }
      by_job s o s' f (ends_bad k h) d eq = record { run = rw eq (run_push (m.plan l) (m.next l) 0 t.done Bad g.run (rw f.0 detect_bad)); fits = tt; past = g.past }
      by_job s o s' f (recovers k h) d eq = record { run = rw (eq, append-nil) g.run; fits = (rw (eq, append-nil) f.0, recover_sure, due_time_pos l Sure); past = g.past }

  -- by a release
  pub good_start : (l : Line) (now : ℕ) (t : Task) (p : Plan) (s' : Pending) (last : ℕ) → Good m l now t → p ≡ plan_after m l t.done → s' ≡ just_released l p → last ≡ now
      → Good m l now (record { done = t.done; job = s'; last = last })
  good_start l now t p s' last g e is at = record { run = g.run; fits = rw is (sym e, first_ending_allowed p, due_time_pos l (first_ending p)); past = omega arith }

  -- what a release changes, for a task with no job whose last release is a period ago
  pub started : (l : Line) (now : ℕ) (t : Task) (p : Plan) (s' : Pending) (last : ℕ) → t.job ≡ free → p ≡ plan_after m l t.done → s' ≡ just_released l p → last ≡ now
      → (0 < length t.done → t.last + l.period ≤ now)
      → Started m l now t (record { done = t.done; job = s'; last = last })
  started l now t p s' last was e is at gate = record {
    same = refl;
    was = rw was;
    is = rw is;
    new = at;
    gate = gate;
    gain = rw (was, is, append-nil) (omega (arith, work_push m l t.done p (first_ending p) (sym e), first_ending_cost l p));
  }
