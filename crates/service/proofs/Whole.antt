-- Every served log keeps the service guarantee.
use Rattle.std.proofs.Common.{◌≡◌, ℕ, zero, suc, ◌+◌, ◌-◌, ◌<◌, ◌≤◌, Bool, cond, eqb, List, ◌++◌, length, get_or, take, Some, None, Ok, Err, Result, sym, refl, ap, ◌∙◌, subst, arith}
use Rattle.std.proofs.lemmas.Bool.{cond-true, cond-false, eq-eqb, ne_eqb}
use Rattle.tasks.specs.declared.line.Line.{Line}
use Rattle.tasks.specs.declared.table.Table.{Table}
use Rattle.tasks.specs.declared.job.Plan.{Plan}
use Rattle.tasks.specs.declared.job.Ending.{Ending}
use Rattle.tasks.specs.declared.job.Outcome.{Outcome}
use Rattle.tasks.specs.declared.refusal.Refusal.{Refusal}
use Rattle.tasks.specs.Tables.{IsLine, Numbered}
use Rattle.policies.specs.Promises.{Meaning, Promises}
use Rattle.policies.specs.Runs.{rights}
use Rattle.window.proofs.Pending as window
use Rattle.window.proofs.Sums.{by_place, sum_upto}
use Rattle.window.proofs.Sound.{sound_in_time, sound_reliable}
use Rattle.response.specs.Figures as response
use Rattle.engine.specs.declared.state.OpenJob.{OpenJob}
use Rattle.engine.specs.Kept.{busy}
use Rattle.engine.specs.Status.{Status}
use Rattle.engine.specs.Steps as step
use Rattle.engine.proofs.Sole.{same_line}
use Rattle.service.specs.declared.log.Call.{Call}
use Rattle.service.specs.declared.log.Call.TheVariants as call
use Rattle.service.specs.declared.log.Reply.{Reply}
use Rattle.service.specs.declared.log.Reply.TheVariants.{Opened, Planned, Ticked, Figured}
use Rattle.service.specs.declared.log.Entry.{Entry}
use Rattle.service.specs.Account.{Account, account}
use Rattle.service.specs.Served.{answer, ticked, counted, Answers, Served, no_call, one_more}
use Rattle.service.specs.Guarantee.{Even, FigureOf, Tells, a_refusal, admission, plan_told, outcome_told, counts_told, figure_told, Newest, Guarantee, Always, Holds, ToldBy, Service}
use Rattle.service.proofs.Jobs.{due_busy, busy_open, heard_busy}
use Rattle.service.proofs.Lines.{at_place, some_line}
use Rattle.service.proofs.Carried.{Carried, seen, carried}
use Rattle.service.proofs.Only.{alone}

module _ (m : Meaning) where
  -- a figure meets the load that the window counts
  figure_meets : (ls : List Line) (i : ℕ) (l d : Line) (f : ℕ) → i < length ls → l ≡ get_or ls i d → response.Figure m.demand (take i ls) l f → window.Meets m (λ h. get_or ls h d) i f
  figure_meets ls i l d f inside line figure pos = by_figure figure pos
    where
      loads : (t : ℕ) → m.demand l 1 + response.load_above m.demand (take i ls) t ≡ window.load m (λ h. get_or ls h d) i t
      loads t =
          ap (λ (x : ℕ). m.demand l 1 + x) (sum_upto (λ h. m.demand h (response.jobs_by h t)) ls d i (omega arith))
          ∙ ap (λ (x : Line). m.demand x 1 + window.upto i (λ h. m.demand (get_or ls h d) (response.jobs_by (get_or ls h d) t))) line

      by_figure : {f : ℕ} → response.Figure m.demand (take i ls) l f → 0 < f → (f ≤ (get_or ls i d).period) × (window.load m (λ h. get_or ls h d) i f ≤ f)
      by_figure (response.smallest {t} pos within passes least) p = (omega (arith, within, ap (λ (x : Line). x.period) line), omega (arith, passes, loads t))
      by_figure (response.none fails) p = absurd (omega (arith, p))

  module _ (promises : Promises m) (a : Account) (st : Status) (v : Carried m a st) (ls : List Line) (there : a.lines ≡ Some ls) (d : Line) where
    abbrev line : ℕ → Line
    line h = get_or ls h d

    no_figures : (i : ℕ) → i < length ls → window.Meets m line i 0
    no_figures i k pos = absurd (omega (arith, pos))

    -- a task's releases are its ends and its open job
    balanced : (i : ℕ) → (a.tally (suc i)).releases ≡ length (a.tally (suc i)).ends + busy (st.task (suc i)).job
    balanced i = omega (arith, (v.sound ls d there (λ h. 0) no_figures).counted i, due_busy (st.task (suc i)).job)

    pub equal_by : (i : ℕ) → (a.tally (suc i)).releases ≡ length (a.tally (suc i)).ends + cond (a.tally (suc i)).pending 1 0
    equal_by i = omega (arith, balanced i, busy_open (st.task (suc i)).job, ap {B = ℕ} (λ (b : Bool). cond b 1 0) (v.pending_is (suc i)))

    pub in_time_by : (i f : ℕ) → i < length ls → window.Meets m line i f → 0 < f → (a.tally (suc i)).last + f ≤ a.ticks → Even (a.tally (suc i))
    in_time_by i f k fits pos late =
        let figure : ℕ → ℕ = λ h. cond (eqb h i) f 0 in
        let here : figure i ≡ f = cond-true (eqb i i) f 0 (eq-eqb i i refl) in
        let figures : (h : ℕ) → h < length ls → window.Meets m line h (figure h) = by_place (λ h. h < length ls → window.Meets m line h (figure h)) i
        (λ k. subst (window.Meets m line i) (sym here) fits)
        (λ h ne k p. absurd (omega (arith, p, cond-false (eqb h i) f 0 (ne_eqb h i ne)))) in
        sound_in_time m promises (length ls) line (λ h k. v.taken ls there h d k) figure figures a.ticks (seen a st) (λ h. (a.tally (suc h)).releases) (v.sound ls d there figure figures) i k (omega (arith, here)) (omega (arith, here))

    pub reliable_by : (i : ℕ) → i < length ls → (before window after : List Ending) → (a.tally (suc i)).ends ≡ before ++ (window ++ after) → length window ≡ (line i).k → (line i).m ≤ rights window
    reliable_by i k = sound_reliable m promises (length ls) line (λ h k. v.taken ls there h d k) (λ h. 0) no_figures a.ticks (seen a st) (λ h. (a.tally (suc h)).releases) (v.sound ls d there (λ h. 0) no_figures) i k

  module _ (promises : Promises m) (a : Account) (st : Status) (v : Carried m a st) where
    equal_when_closed : (ls : List Line) (n : ℕ) → a.lines ≡ Some ls → IsLine ls n → (a.tally n).releases ≡ length (a.tally n).ends + cond (a.tally n).pending 1 0
    equal_when_closed ls zero there is = absurd (omega (arith, is.0))
    equal_when_closed ls (suc i) there is = equal_by promises a st v ls there (some_line ls (suc i) is) i

    in_time : (ls : List Line) (n : ℕ) (l : Line) (f : ℕ) → a.lines ≡ Some ls → Numbered ls n l → FigureOf m a n f → 0 < f → (a.tally n).last + f ≤ a.ticks → Even (a.tally n)
    in_time ls zero l f there named figure pos late = absurd (omega (arith, named.0.0))
    in_time ls (suc i) l f there named figure pos late =
        let place = at_place ls i l l named in
        let back : suc i - 1 ≡ i = omega arith in
        let is : response.Figure m.demand (take i ls) l f = subst (λ (k : ℕ). response.Figure m.demand (take k ls) l f) back (figure ls l there named) in
        in_time_by promises a st v ls there l i f place.0 (figure_meets ls i l l f place.0 place.1 is) pos late

    reliable : (ls : List Line) (n : ℕ) (l : Line) → a.lines ≡ Some ls → Numbered ls n l → (before window after : List Ending) → (a.tally n).ends ≡ before ++ (window ++ after) → length window ≡ l.k → l.m ≤ rights window
    reliable ls zero l there named before window after e many = absurd (omega (arith, named.0.0))
    reliable ls (suc i) l there named before window after e many =
        let place = at_place ls i l l named in
        subst (λ (x : Line). x.m ≤ rights window) (sym place.1)
        (reliable_by promises a st v ls there l i place.0 before window after e (many ∙ ap (λ (x : Line). x.k) place.1))

    -- ---- what an answer tells

    table_is : (ls : List Line) → a.lines ≡ Some ls → st.lines ≡ Some ls
    table_is ls e = v.lines_is ∙ e

    even_when : (ls : List Line) (n : ℕ) → a.lines ≡ Some ls → IsLine ls n → (st.task n).job ≡ None → Even (a.tally n)
    even_when ls zero there is shut = absurd (omega (arith, is.0))
    even_when ls (suc i) there is shut = omega (arith, balanced promises a st v ls there (some_line ls (suc i) is) i, ap busy shut)

    odd_when : (ls : List Line) (n : ℕ) (o : OpenJob) → a.lines ≡ Some ls → IsLine ls n → (st.task n).job ≡ Some o → Even (a.tally n) → ⊥
    odd_when ls zero o there is job even = omega (arith, is.0)
    odd_when ls (suc i) o there is job even = omega (arith, balanced promises a st v ls there (some_line ls (suc i) is) i, ap busy job)

    tells_on : (ls : List Line) (word n : ℕ) (x : Outcome) (st' : Status) → st.lines ≡ Some ls → step.TickOn m st ls word (Ok (n, x)) st' → Tells m a (call.Tick word) (Ok (Ticked n x))
    tells_on ls word n x st' there (step.idles quiet w) = outcome_told (λ xs e.
        let at = v.lines_is in let same : ls ≡ xs = cc in
        (λ told k is. even_when xs k e is (quiet k (subst (λ (ys : List Line). IsLine ys k) (sym same) is)), λ even. refl))
    tells_on ls word n x st' there (step.runs {o = o} turn says) = outcome_told (λ xs e.
        let at = v.lines_is in let same : ls ≡ xs = cc in (
          λ told. absurd (heard_busy o word (says ∙ ap Some told)),
          λ even. let is : IsLine xs n = subst (λ (ys : List Line). IsLine ys n) same turn.line.0 in absurd (odd_when xs n o e is turn.job (even n is)),
        ))

    tells_tick : (word : ℕ) (r : Result (ℕ × Outcome) Refusal) (st' : Status) → step.Tick m st word r st' → Tells m a (call.Tick word) (answer ticked r)
    tells_tick word (Err e) st' tick = a_refusal
    tells_tick word (Ok x) st' (step.ticks {ls} there more on) = tells_on ls word x.0 x.1 st' there on

    tells_plan : (n : ℕ) (ls : List Line) (l : Line) (p : Plan) (st' : Status) → st.lines ≡ Some ls → Numbered ls n l → step.ReleaseOn m st n l (Ok p) st' → Tells m a (call.Release n) (Ok (Planned p))
    tells_plan n ls l p st' there named (step.starts rested shut planned) = plan_told (λ (xs : List Line) (x : Line) (e : a.lines ≡ Some xs) (at : Numbered xs n x).
        let lines = v.lines_is in let same : ls ≡ xs = cc in
        let line : l ≡ x = same_line xs n l x (subst (λ (ys : List Line). Numbered ys n l) same named) at in
        planned ∙ ap (λ (y : Line). m.plan y (st.task n).mark) line ∙ ap (m.plan x) (v.mark_is xs n x e at))

    tells_release : (n : ℕ) (r : Result Plan Refusal) (st' : Status) → step.Release m st n r st' → Tells m a (call.Release n) (answer Planned r)
    tells_release n (Err e) st' release = a_refusal
    tells_release n (Ok p) st' (step.of_line {ls} {l} there named on) = tells_plan n ls l p st' there named on

    tells_opening : (t : Table) (r : Result Bool Refusal) → Tells m a (call.Open t) (answer Opened r)
    tells_opening t r = grind (arith, admission, a_refusal)

    tells_counts : (n : ℕ) (r : Result (ℕ × ℕ) Refusal) (st' : Status) → step.CountsAsked st n r st' → Tells m a (call.Counts n) (answer counted r)
    tells_counts n r st' asked = grind (arith, a_refusal, counts_told, v.releases_is n, v.ends_is n)

    tells_figure : (n : ℕ) (r : Result ℕ Refusal) (st' : Status) → step.FigureAsked st n r st' → Tells m a (call.Figure n) (answer Figured r)
    tells_figure n r st' (step.no_table c shut) = a_refusal
    tells_figure n r st' (step.no_task c there none) = a_refusal
    tells_figure n r st' (step.of_line there named (is, same)) = subst (λ (x : Result ℕ Refusal). Tells m a (call.Figure n) (answer Figured x)) (sym is)
        (figure_told (λ xs l e at. subst (λ (x : Line). response.Figure m.demand (take (n - 1) xs) x (get_or st.figures (n - 1) 0)) (sym at.1) ((v.figures_is xs e).each (n - 1) (omega (arith, at.0.0, at.0.1)) l)))

    tells_call : (c : Call) (r : Result Reply Refusal) (st' : Status) → Answers m st c r st' → Tells m a c r
    tells_call (call.Open t) r st' (x, e, s) = subst (Tells m a (call.Open t)) (sym e) (tells_opening t x)
    tells_call (call.Release n) r st' (x, e, s) = subst (Tells m a (call.Release n)) (sym e) (tells_release n x st' s)
    tells_call (call.Tick w) r st' (x, e, s) = subst (Tells m a (call.Tick w)) (sym e) (tells_tick w x st' s)
    tells_call (call.Counts n) r st' (x, e, s) = subst (Tells m a (call.Counts n)) (sym e) (tells_counts n x st' s)
    tells_call (call.Figure n) r st' (x, e, s) = subst (Tells m a (call.Figure n)) (sym e) (tells_figure n x st' s)

  module _ (promises : Promises m) where
    newest : {log : List Entry} {st : Status} → Served m log st → Newest (Tells m) log
    newest no_call = tt
    newest (one_more {log} {st} {st'} e before s) = tells_call promises (account log) st (carried m promises before) e.call e.answer st' s

    guarantee : {log : List Entry} {st : Status} → Served m log st → Guarantee m log
    guarantee {log} {st} s = record {
      told = newest s;
      equal_when_closed = equal_when_closed promises (account log) st (carried m promises s);
      in_time = in_time promises (account log) st (carried m promises s);
      reliable = reliable promises (account log) st (carried m promises s);
    }

    always : {log : List Entry} {st : Status} → Served m log st → Always (Guarantee m) log
    always no_call = guarantee no_call
    always (one_more e before s) = (guarantee (one_more e before s), always before)

    holds : {log : List Entry} {st : Status} → Served m log st → Holds (account log) st
    holds s =
        let v = carried m promises s in
        record { table = v.lines_is; ticks = v.ticks_is; releases = v.releases_is; last = v.last_is; ends = v.ends_is; pending = λ n. sym (v.pending_is n) }

    told_by : {log : List Entry} {st : Status} → Served m log st → ToldBy m (account log) st
    told_by {log} {st} s =
        let v = carried m promises s in
        record { counts = tells_counts promises (account log) st v; figures = tells_figure promises (account log) st v }

    -- the whole, of every served log
    pub service : {log : List Entry} {st : Status} → Served m log st → Service m log st
    service s = record { served = s; only = alone m s; guaranteed = always s; holds = holds s; tells = told_by s }
