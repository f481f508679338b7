-- The run of an engine, step by step: its log is served, and no other is.
use Rattle.std.proofs.Common.{◌≡◌, ℕ, ◌+◌, ◌<◌, true, List, [], ◌∷◌, map, reverse, replicate, None, Some, Ok, Err, codes, sym, refl, ap, ◌∙◌, subst, inl, inr, arith, lit<, lit≤}
use mathlib.Core.List.{reverse_aux, reverse-reverse}
use Rattle.words.specs.Bits.{word_of}
use Rattle.words.specs.Sums.{sum_below, row, greatest_below, greatest_row}
use Rattle.words.specs.Turns.{turn_of, first_from}
use Rattle.tasks.specs.declared.name.Name.{Name}
use Rattle.tasks.specs.declared.line.Line.{Line}
use Rattle.tasks.specs.declared.table.Table.{Table}
use Rattle.tasks.specs.declared.job.Plan.{Plan}
use Rattle.tasks.specs.declared.job.Plan.TheVariants.{Detect, Correct}
use Rattle.tasks.specs.declared.job.Ending.TheVariants.{Bad, Sure}
use Rattle.tasks.specs.declared.job.Outcome.{Outcome}
use Rattle.tasks.specs.declared.job.Outcome.TheVariants.{Idle, On, Ended}
use Rattle.tasks.specs.declared.technique.Technique.TheVariants.{Dre}
use Rattle.tasks.specs.declared.refusal.Refusal.TheVariants.{TooEarly}
use Rattle.tasks.specs.Rows.{Row, rows_of}
use Rattle.tasks.specs.Tables.{lines_of}
use Rattle.policies.specs.Promises.{Meaning, meant}
use Rattle.policies.specs.Techniques.{technique_plan, technique_next}
use Rattle.response.specs.Figures.{Figure, smallest, Answered}
use Rattle.engine.specs.declared.state.OpenJob.{OpenJob}
use Rattle.engine.specs.declared.state.Task.{Task}
use Rattle.engine.specs.Jobs.{begun, heard, released, task_after, unused}
use Rattle.engine.specs.Status.{Status, most_ticks, put}
use Rattle.engine.specs.Steps.{opens, of_line, Rested, early, starts, Quiet, idles, runs, ticks}
use Rattle.text.specs.Reading.{reading}
use Rattle.service.specs.declared.log.Call.{Call}
use Rattle.service.specs.declared.log.Call.TheVariants.{Release, Tick}
use Rattle.service.specs.declared.log.Reply.TheVariants.{Planned, Ticked}
use Rattle.service.specs.declared.log.Entry.{Entry}
use Rattle.service.specs.Served.{calls, Served, no_call, one_more}
use Rattle.service.specs.Guarantee.{Service}
use Rattle.examples.specs.Runs.{run_text, entry, opening, too_early, idle, run_log}
use Rattle.report.specs.Answer.{takes, demand}
use Rattle.examples.proofs.Figures.{placed, some_at, worked}
use Rattle.examples.proofs.Lines.{Fit, line_said, one_line}

abbrev by_line : Meaning
by_line = meant takes (λ l. technique_plan l.technique l) (λ l. technique_next l.technique l) demand

-- ---- the table

abbrev run_row : Row
run_row = record { name = codes "A"; technique = Dre; m = 1; k = 2; word = 2; bare = 1; detect = 2; correct = 3; period = 5 }

pub run_said : reading run_text ≡ Ok (run_row ∷ [])
unfolding reading word_of sum_below
run_said = refl

module _ (n : Name) (fit : Fit run_row) where
  abbrev l : Line
  l = line_said run_row n fit

  asks : demand l 1 ≡ 3
  unfolding greatest_row greatest_below row sum_below
  asks = refl

  figure : Figure demand [] l 3
  figure = smallest (lit≤ tt) (lit≤ tt) (omega (arith, asks)) (λ s a b p. omega (arith, asks, p))

  admitted : Answered takes demand (l ∷ []) (placed (3 ∷ [])) (Ok true)
  admitted = worked (l ∷ []) (3 ∷ []) true (lit≤ tt) (lit≤ tt) refl (refl, figure, tt) ((λ e. some_at (replicate 31 0) (3 ∷ []) (lit≤ tt, tt)), λ all. refl)

-- ---- the calls

module _ (t : Table) (n : Name) (fit : Fit run_row) (e : lines_of t ≡ l n fit ∷ []) where
  abbrev at : ℕ → (ℕ → Task) → Status
  at now f = record { lines = Some (lines_of t); figures = placed (3 ∷ []); ticks = now; task = f }

  lines : Some (lines_of t) ≡ Some (l n fit ∷ [])
  lines = ap (λ (x : List Line). Some x) e

  module _ {log : List Entry} {now : ℕ} {f : ℕ → Task} (before : Served by_line log (at now f)) where
    starts_with : (p : Plan) → Rested now (l n fit) (f 1) → (f 1).job ≡ None → p ≡ by_line.plan (l n fit) (f 1).mark
        → Served by_line (entry (Release 1) (Ok (Planned p)) ∷ log) (at now (put 1 (released (f 1) now (Some (begun (l n fit) p))) f))
    starts_with p rested shut is = one_more (entry (Release 1) (Ok (Planned p))) before (Ok p, refl, of_line lines ((lit≤ tt, lit≤ tt), refl) (starts rested shut is))

    comes_early : 0 < (f 1).releases → now < (f 1).last + 5 → Served by_line (too_early ∷ log) (at now f)
    comes_early some within = one_more too_early before (Err TooEarly, refl, of_line lines ((lit≤ tt, lit≤ tt), refl) (early refl some within))

    idles_on : now < most_ticks → (f 1).job ≡ None → Served by_line (idle ∷ log) (at (now + 1) f)
    idles_on room shut =
        let quiet : Quiet (at now f) (l n fit ∷ []) = λ k h. let first : 1 ≡ k = omega (arith, h.0, h.1) in subst (λ (j : ℕ). (f j).job ≡ None) first shut in
        one_more idle before (Ok (0, Idle), refl, ticks lines room (idles quiet refl))

    hears : (w : ℕ) (x : Outcome) (o : OpenJob) → now < most_ticks → (f 1).job ≡ Some o → heard o w ≡ Some x
        → Served by_line (entry (Tick w) (Ok (Ticked 1 x)) ∷ log) (at (now + 1) (put 1 (task_after by_line (l n fit) (f 1) o x) f))
    hears w x o room is_open said =
        one_more (entry (Tick w) (Ok (Ticked 1 x))) before
        (Ok (1, x), refl, ticks lines room (runs (record { line = ((lit≤ tt, lit≤ tt), refl); job = is_open; first = λ k a b. absurd (omega arith) }) said))

  opened_table : Served by_line (opening t ∷ []) (at 0 (λ k. unused))
  opened_table = one_more (opening t) no_call (Ok true, refl, opens refl (subst (λ (ls : List Line). Answered takes demand ls (placed (3 ∷ [])) (Ok true)) (sym e) (admitted n fit)))

  run_served : (st : Status) × Served by_line (reverse (run_log t)) st
  unfolding turn_of first_from
  run_served =
      let s1 = starts_with opened_table Detect (inl refl) refl refl in
      let s2 = hears s1 0 On _ (lit< tt) refl refl in
      let s3 = hears s2 2 (Ended Bad) _ (lit< tt) refl refl in
      let s4 = idles_on (idles_on s3 (lit< tt) refl) (lit< tt) refl in
      let s5 = idles_on (comes_early s4 (lit< tt) (lit< tt)) (lit< tt) refl in
      let s6 = starts_with s5 Correct (inr (lit≤ tt)) refl refl in
      let s7 = hears s6 0 On _ (lit< tt) refl refl in
      let s8 = hears s7 0 On _ (lit< tt) refl refl in
      (_, hears s8 1 (Ended Sure) _ (lit< tt) refl refl)

-- ---- the log

map_reverse_aux : {A B : Type 0} (f : A → B) (xs ys : List A) → map f (reverse_aux xs ys) ≡ reverse_aux (map f xs) (map f ys)
map_reverse_aux f [] ys = refl
map_reverse_aux f (x ∷ xs) ys = map_reverse_aux f xs (x ∷ ys)

pub run_is : (t : Table) (log : List Entry) (st : Status) → reading run_text ≡ Ok (rows_of t) → calls log ≡ calls (run_log t) → Service by_line (reverse log) st → log ≡ run_log t
run_is t log st read same service =
    let rows : rows_of t ≡ run_row ∷ [] = cc run_said in
    let is = one_line (lines_of t) run_row rows in
    let run = run_served t is.0 is.1 is.2 in
    let call : Entry → Call = λ e. e.call in
    let asked : calls (reverse (run_log t)) ≡ calls (reverse log) = ap reverse (sym same) ∙ sym (map_reverse_aux call log []) in
    sym (reverse-reverse log) ∙ sym (ap reverse (service.only (reverse (run_log t)) run.0 run.1 asked))
