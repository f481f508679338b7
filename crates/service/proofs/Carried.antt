-- What is carried along a served log: the engine's status has what the account says, and the busy window's balance holds.
use Rattle.std.proofs.Common.{◌≡◌, ℕ, zero, suc, ◌+◌, ◌<◌, ◌≤◌, Bool, true, ◌≢◌, List, [], ◌++◌, length, get_or, Some, Option, None, Result, sym, refl, ap, ◌∙◌, subst, inl, inr, ⊎_elim, append-nil, arith, length-append}
use Rattle.std.proofs.lemmas.Bool.Decides.{nat_tests}
use Rattle.tasks.specs.declared.line.Line.{Line}
use Rattle.tasks.specs.declared.table.Table.{Table}
use Rattle.tasks.specs.declared.job.Plan.{Plan}
use Rattle.tasks.specs.declared.job.Outcome.{Outcome}
use Rattle.tasks.specs.declared.refusal.Refusal.{Refusal}
use Rattle.tasks.specs.Tables.{lines_of, Numbered}
use Rattle.policies.specs.Promises.{Meaning, Promises}
use Rattle.policies.specs.Runs.{mark_after}
use Rattle.window.proofs.Pending as window
use Rattle.window.proofs.Sums.{by_place}
use Rattle.window.proofs.Costs.{mark_append}
use Rattle.window.proofs.Task as window-task
use Rattle.window.proofs.Sound.{task_eq, Sound, sound_opened, sound_idle, sound_release, sound_tick}
use Rattle.response.specs.Figures.{Figures, Taken, worked_out}
use Rattle.engine.specs.declared.state.OpenJob.{OpenJob}
use Rattle.engine.specs.declared.state.Task.{Task}
use Rattle.engine.specs.Jobs.{is_open, begun, heard, job_after, released, task_after}
use Rattle.engine.specs.Kept.{busy, left}
use Rattle.engine.specs.Status.{Status, new_status, put}
use Rattle.engine.specs.Steps.{opened, closed, Opening, already_open, unfit, opens, OfTask, no_table, no_task, of_line, Rested, ReleaseOn, Release, early, still_open, starts, Quiet, Turn, later, idles, no_job, unheard, runs, Tick, unopened, spent, ticks}
use Rattle.engine.proofs.Sole.{same_line}
use Rattle.service.specs.declared.log.Call.{Call}
use Rattle.service.specs.declared.log.Call.TheVariants as call
use Rattle.service.specs.declared.log.Reply.{Reply}
use Rattle.service.specs.declared.log.Reply.TheVariants.{Opened, Planned}
use Rattle.service.specs.declared.log.Entry.{Entry}
use Rattle.service.specs.Account.{Tally, Account, untouched, with_release, with_outcome, noted, account}
use Rattle.service.specs.Served.{answer, ticked, Answers, Served, no_call, one_more}
use Rattle.service.proofs.Jobs.{pending_of, begun_pending, begun_lasts, heard_comes, heard_lasts}
use Rattle.service.proofs.Lines.{at_place, put_here, put_there, put_same}

-- the task at a place, as the busy window sees it
abbrev pub seen : Account → Status → ℕ → window-task.Task
seen a st h = record { done = (a.tally (suc h)).ends; job = pending_of (st.task (suc h)).job; last = (a.tally (suc h)).last }

pub record Carried (m : Meaning) (a : Account) (st : Status) : Type 0 where
  -- the status has the account's table, ticks and counts
  pub lines_is : st.lines ≡ a.lines
  pub ticks_is : st.ticks ≡ a.ticks
  pub releases_is : (n : ℕ) → (st.task n).releases ≡ (a.tally n).releases
  pub last_is : (n : ℕ) → (st.task n).last ≡ (a.tally n).last
  pub ends_is : (n : ℕ) → (st.task n).ends ≡ length (a.tally n).ends
  pub pending_is : (n : ℕ) → (a.tally n).pending ≡ is_open (st.task n).job
  -- the mark is that after the account's ends
  pub mark_is : (ls : List Line) (n : ℕ) (l : Line) → a.lines ≡ Some ls → Numbered ls n l → (st.task n).mark ≡ mark_after (m.plan l) (m.next l) 0 (a.tally n).ends
  -- the figures are those of the table, whose lines are taken
  pub figures_is : (ls : List Line) → a.lines ≡ Some ls → Figures m.demand ls (length ls) st.figures
  pub taken : (ls : List Line) → a.lines ≡ Some ls → Taken m.takes ls (length ls)
  -- an open job has a tick left
  pub lasting : (n : ℕ) → busy (st.task n).job ≤ left (st.task n).job
  -- and whatever figures meet their loads, the window of each level is kept
  pub sound : (ls : List Line) (d : Line) → a.lines ≡ Some ls → (figure : ℕ → ℕ) → ((i : ℕ) → i < length ls → window.Meets m (λ h. get_or ls h d) i (figure i))
      → Sound m (length ls) (λ h. get_or ls h d) figure a.ticks (seen a st) (λ h. (a.tally (suc h)).releases)

-- ---- outcomes

module _ (t : Tally) where
  pub outcome_releases : (x : Outcome) → (with_outcome x t).releases ≡ t.releases
  outcome_releases x = grind arith

  outcome_last : (x : Outcome) → (with_outcome x t).last ≡ t.last
  outcome_last x = grind arith

  outcome_ends : (x : Outcome) → (with_outcome x t).ends ≡ t.ends ++ window.added x
  outcome_ends x = grind (arith, append-nil)

  outcome_pending : (l : Line) (o : OpenJob) (x : Outcome) → t.pending ≡ true → (with_outcome x t).pending ≡ is_open (job_after l o x)
  outcome_pending l o x e = grind arith

module _ (m : Meaning) (l : Line) (t : Task) (o : OpenJob) where
  after_releases : (x : Outcome) → (task_after m l t o x).releases ≡ t.releases
  after_releases x = grind arith

  after_last : (x : Outcome) → (task_after m l t o x).last ≡ t.last
  after_last x = grind arith

  after_job : (x : Outcome) → (task_after m l t o x).job ≡ job_after l o x
  after_job x = grind arith

  after_ends : (x : Outcome) (y : Tally) → t.ends ≡ length y.ends → (task_after m l t o x).ends ≡ length (with_outcome x y).ends
  after_ends x y e = grind (arith, length-append)

  after_mark : (x : Outcome) (y : Tally) → t.mark ≡ mark_after (m.plan l) (m.next l) 0 y.ends → (task_after m l t o x).mark ≡ mark_after (m.plan l) (m.next l) 0 (with_outcome x y).ends
  after_mark x y e = grind (arith, mark_append (m.plan l) (m.next l) 0 y.ends)

closed_free : (j : Option OpenJob) → j ≡ None → pending_of j ≡ window.free
closed_free j e = ap pending_of e

-- two numbers that are not one
apart : (h i : ℕ) → h ≢ i → suc h ≢ suc i
apart h i ne e = ne (omega arith)

-- what holds of the changed record and tally, and held of each other, holds of all
each_of : (n k : ℕ) (w : Task) (y : Tally) (task : ℕ → Task) (tally : ℕ → Tally) (P : Task → Tally → Type 0) → (k ≡ n → P w y) → P (task k) (tally k) → P (put n w task k) (put n y tally k)
each_of n k w y task tally P new old = grind (arith, nat_tests)

module _ (m : Meaning) (promises : Promises m) where
  pub carried_new : Carried m (account []) new_status
  carried_new = record {
    lines_is = refl;
    ticks_is = refl;
    releases_is = λ n. refl;
    last_is = λ n. refl;
    ends_is = λ n. refl;
    pending_is = λ n. refl;
    mark_is = λ ls n l e. cc;
    figures_is = λ ls e. cc;
    taken = λ ls e. cc;
    lasting = λ n. omega arith;
    sound = λ ls d e. cc;
  }

  carried_opened : (a : Account) (st : Status) (ls : List Line) (places : List ℕ) → st.ticks ≡ a.ticks → Taken m.takes ls (length ls) → Figures m.demand ls (length ls) places
      → Carried m (record { lines = Some ls; ticks = a.ticks; tally = λ n. untouched }) (opened st ls places)
  carried_opened a st ls places now ok figures = record {
    lines_is = refl;
    ticks_is = now;
    releases_is = λ n. refl;
    last_is = λ n. refl;
    ends_is = λ n. refl;
    pending_is = λ n. refl;
    mark_is = λ xs n l e named. refl;
    figures_is = λ xs e. let same : ls ≡ xs = cc in subst (λ (ys : List Line). Figures m.demand ys (length ys) places) same figures;
    taken = all;
    lasting = λ n. omega arith;
    sound = λ xs d e figure meet. sound_opened m promises (length xs) (λ h. get_or xs h d) (λ h k. all xs e h d k) figure meet a.ticks (λ h. record { done = []; job = window.free; last = 0 }) (λ h. 0) (λ h. refl) (λ h. refl);
  }
    where
      all : (xs : List Line) → Some ls ≡ Some xs → Taken m.takes xs (length xs)
      all xs e = let same : ls ≡ xs = cc in subst (λ (ys : List Line). Taken m.takes ys (length ys)) same ok

  carried_closed : (a : Account) (st : Status) (places : List ℕ) → Carried m a st → st.lines ≡ None → Carried m a (closed st places)
  carried_closed a st places v shut = record {
    lines_is = sym shut ∙ v.lines_is;
    ticks_is = v.ticks_is;
    releases_is = v.releases_is;
    last_is = v.last_is;
    ends_is = v.ends_is;
    pending_is = v.pending_is;
    mark_is = v.mark_is;
    figures_is = λ ls e. let was = v.lines_is in cc;
    taken = v.taken;
    lasting = v.lasting;
    sound = v.sound;
  }

  -- the account and the status after a release of the task n
  abbrev freed : Account → ℕ → Account
  freed a n = record { lines = a.lines; ticks = a.ticks; tally = put n (with_release a.ticks (a.tally n)) a.tally }

  abbrev started : Status → ℕ → Line → Plan → Status
  started st n l p = record { lines = st.lines; figures = st.figures; ticks = st.ticks; task = put n (released (st.task n) st.ticks (Some (begun l p))) st.task }

  module _ (a : Account) (st : Status) (v : Carried m a st) (ls : List Line) (there : a.lines ≡ Some ls) (i : ℕ) (l : Line) (named : Numbered ls (suc i) l) where
    sound_freed : (p : Plan) → Rested st.ticks l (st.task (suc i)) → (st.task (suc i)).job ≡ None → p ≡ m.plan l (st.task (suc i)).mark
        → (xs : List Line) (d : Line) → a.lines ≡ Some xs → (figure : ℕ → ℕ) → ((h : ℕ) → h < length xs → window.Meets m (λ h. get_or xs h d) h (figure h))
        → Sound m (length xs) (λ h. get_or xs h d) figure a.ticks (seen (freed a (suc i)) (started st (suc i) l p)) (λ h. ((freed a (suc i)).tally (suc h)).releases)
    sound_freed p rested closed planned xs d e figure meet =
        sound_release m promises (length xs) (λ h. get_or xs h d) (λ h k. v.taken xs e h d k) figure meet a.ticks (seen a st) new (λ h. (a.tally (suc h)).releases) (λ h. ((freed a (suc i)).tally (suc h)).releases) i p
        (v.sound xs d e figure meet) place.0 (closed_free (st.task (suc i)).job closed)
        (⊎_elim (λ (z : (st.task (suc i)).releases ≡ 0). inl (sym (v.releases_is (suc i)) ∙ z)) (λ (k : (st.task (suc i)).last + l.period ≤ st.ticks). inr (omega (arith, v.last_is (suc i), v.ticks_is, ap (λ (x : Line). x.period) place.1))) rested)
        (subst (λ (x : Line). p ≡ window-task.plan_after m x (a.tally (suc i)).ends) place.1 (planned ∙ ap (m.plan l) (v.mark_is ls (suc i) l there named)))
        (subst (λ (x : Line). new i ≡ record { done = (a.tally (suc i)).ends; job = window.just_released x p; last = a.ticks }) place.1
        (task_eq (new i) (record { done = (a.tally (suc i)).ends; job = window.just_released l p; last = a.ticks }) (ap (λ (t : Tally). t.ends) here) (ap (λ (t : Task). pending_of t.job) (put_here (suc i) w st.task) ∙ begun_pending l p) (ap (λ (t : Tally). t.last) here)))
        (λ h ne. task_eq (new h) (seen a st h) (ap (λ (t : Tally). t.ends) (there' h ne)) (ap (λ (t : Task). pending_of t.job) (put_there (suc i) w st.task (suc h) (apart h i ne))) (ap (λ (t : Tally). t.last) (there' h ne)))
        (ap (λ (t : Tally). t.releases) here)
        (λ h ne. ap (λ (t : Tally). t.releases) (there' h ne))
      where
        new : ℕ → window-task.Task
        new = seen (freed a (suc i)) (started st (suc i) l p)

        w : Task
        w = released (st.task (suc i)) st.ticks (Some (begun l p))

        same : ls ≡ xs
        same = cc

        place : (i < length xs) × (l ≡ get_or xs i d)
        place = at_place xs i l d (subst (λ (ys : List Line). Numbered ys (suc i) l) same named)

        here : put (suc i) (with_release a.ticks (a.tally (suc i))) a.tally (suc i) ≡ with_release a.ticks (a.tally (suc i))
        here = put_here (suc i) (with_release a.ticks (a.tally (suc i))) a.tally

        there' : (h : ℕ) → h ≢ i → put (suc i) (with_release a.ticks (a.tally (suc i))) a.tally (suc h) ≡ a.tally (suc h)
        there' h ne = put_there (suc i) (with_release a.ticks (a.tally (suc i))) a.tally (suc h) (apart h i ne)

    pub carried_freed : (p : Plan) → Rested st.ticks l (st.task (suc i)) → (st.task (suc i)).job ≡ None → p ≡ m.plan l (st.task (suc i)).mark → Carried m (freed a (suc i)) (started st (suc i) l p)
    carried_freed p rested closed planned = record {
      lines_is = v.lines_is;
      ticks_is = v.ticks_is;
      releases_is = each (λ t y. t.releases ≡ y.releases) (ap (λ (x : ℕ). x + 1) (v.releases_is n)) v.releases_is;
      last_is = each (λ t y. t.last ≡ y.last) v.ticks_is v.last_is;
      ends_is = each (λ t y. t.ends ≡ length y.ends) (v.ends_is n) v.ends_is;
      pending_is = each (λ t y. y.pending ≡ is_open t.job) refl v.pending_is;
      mark_is = λ xs k x e at. each_of n k w y st.task a.tally (λ t y. t.mark ≡ mark_after (m.plan x) (m.next x) 0 y.ends) (λ is. subst (λ (j : ℕ). (st.task j).mark ≡ mark_after (m.plan x) (m.next x) 0 (a.tally j).ends) is (v.mark_is xs k x e at)) (v.mark_is xs k x e at);
      figures_is = v.figures_is;
      taken = v.taken;
      lasting = λ k. each (λ t y. busy t.job ≤ left t.job) (begun_lasts l p) v.lasting k;
      sound = sound_freed p rested closed planned;
    }
      where
        n : ℕ
        n = suc i

        w : Task
        w = released (st.task n) st.ticks (Some (begun l p))

        y : Tally
        y = with_release a.ticks (a.tally n)

        each : (P : Task → Tally → Type 0) → P w y → ((k : ℕ) → P (st.task k) (a.tally k)) → (k : ℕ) → P (put n w st.task k) (put n y a.tally k)
        each P new old k = each_of n k w y st.task a.tally P (λ e. new) (old k)

  -- ---- ticks

  -- one tick later, nothing else noted
  abbrev idled : Account → Account
  idled a = record { lines = a.lines; ticks = a.ticks + 1; tally = a.tally }

  carried_idle : (a : Account) (st : Status) (ls : List Line) → Carried m a st → a.lines ≡ Some ls → Quiet st ls → Carried m (idled a) (later st st.task)
  carried_idle a st ls v there quiet = record {
    lines_is = v.lines_is;
    ticks_is = ap (λ (x : ℕ). x + 1) v.ticks_is;
    releases_is = v.releases_is;
    last_is = v.last_is;
    ends_is = v.ends_is;
    pending_is = v.pending_is;
    mark_is = v.mark_is;
    figures_is = v.figures_is;
    taken = v.taken;
    lasting = v.lasting;
    sound = λ xs d e figure meet.
        let same : ls ≡ xs = cc in
        sound_idle m promises (length xs) (λ h. get_or xs h d) (λ h k. v.taken xs e h d k) figure meet a.ticks (seen a st) (λ h. (a.tally (suc h)).releases) (v.sound xs d e figure meet)
        (λ h k. closed_free (st.task (suc h)).job (quiet (suc h) (omega arith, omega (arith, ap length same))));
  }

  -- the account and the status after a tick to the task n that came out as x
  abbrev advanced : Account → ℕ → Outcome → Account
  advanced a n x = record { lines = a.lines; ticks = a.ticks + 1; tally = put n (with_outcome x (a.tally n)) a.tally }

  abbrev ran_on : Status → ℕ → Line → OpenJob → Outcome → Status
  ran_on st n l o x = later st (put n (task_after m l (st.task n) o x) st.task)

  module _ (a : Account) (st : Status) (v : Carried m a st) (ls : List Line) (there : a.lines ≡ Some ls) (i : ℕ) (l : Line) (o : OpenJob) (turn : Turn st ls (suc i) l o)
      (word : ℕ) (x : Outcome) (says : heard o word ≡ Some x) where
    lasts : 1 ≤ o.left
    lasts = omega (arith, v.lasting (suc i), ap busy turn.job, ap left turn.job)

    sound_advanced : (xs : List Line) (d : Line) → a.lines ≡ Some xs → (figure : ℕ → ℕ) → ((h : ℕ) → h < length xs → window.Meets m (λ h. get_or xs h d) h (figure h))
        → Sound m (length xs) (λ h. get_or xs h d) figure (a.ticks + 1) (seen (advanced a (suc i) x) (ran_on st (suc i) l o x)) (λ h. ((advanced a (suc i) x).tally (suc h)).releases)
    sound_advanced xs d e figure meet =
        subst (λ (f : ℕ → ℕ). Sound m (length xs) (λ h. get_or xs h d) figure (a.ticks + 1) new f) (λ j h. sym (same_releases h) j)
        (sound_tick m promises (length xs) (λ h. get_or xs h d) (λ h k. v.taken xs e h d k) figure meet a.ticks (seen a st) new (λ h. (a.tally (suc h)).releases) i x (pending_of (job_after l o x))
        (v.sound xs d e figure meet) place.0 (λ h k. closed_free (st.task (suc h)).job (turn.first (suc h) (omega arith) (omega arith)))
        (subst (λ (y : Line). window.Ticks y (pending_of (st.task (suc i)).job) x (pending_of (job_after l o x))) place.1
        (subst (λ (j : Option OpenJob). window.Ticks l (pending_of j) x (pending_of (job_after l o x))) (sym turn.job) (heard_comes l o word x lasts says)))
        (task_eq (new i) _ (ap (λ (t : Tally). t.ends) (put_here (suc i) y a.tally) ∙ outcome_ends (a.tally (suc i)) x) (ap (λ (t : Task). pending_of t.job) (put_here (suc i) w st.task) ∙ ap pending_of (after_job m l (st.task (suc i)) o x)) (ap (λ (t : Tally). t.last) (put_here (suc i) y a.tally) ∙ outcome_last (a.tally (suc i)) x))
        (λ h ne. task_eq (new h) (seen a st h) (ap (λ (t : Tally). t.ends) (put_there (suc i) y a.tally (suc h) (apart h i ne))) (ap (λ (t : Task). pending_of t.job) (put_there (suc i) w st.task (suc h) (apart h i ne))) (ap (λ (t : Tally). t.last) (put_there (suc i) y a.tally (suc h) (apart h i ne)))))
      where
        new : ℕ → window-task.Task
        new = seen (advanced a (suc i) x) (ran_on st (suc i) l o x)

        w : Task
        w = task_after m l (st.task (suc i)) o x

        y : Tally
        y = with_outcome x (a.tally (suc i))

        same : ls ≡ xs
        same = cc

        place : (i < length xs) × (l ≡ get_or xs i d)
        place = at_place xs i l d (subst (λ (ys : List Line). Numbered ys (suc i) l) same turn.line)

        same_releases : (h : ℕ) → (put (suc i) y a.tally (suc h)).releases ≡ (a.tally (suc h)).releases
        same_releases = by_place (λ h. (put (suc i) y a.tally (suc h)).releases ≡ (a.tally (suc h)).releases) i
            (ap (λ (t : Tally). t.releases) (put_here (suc i) y a.tally) ∙ outcome_releases (a.tally (suc i)) x)
            (λ h ne. ap (λ (t : Tally). t.releases) (put_there (suc i) y a.tally (suc h) (apart h i ne)))

    pub carried_advanced : Carried m (advanced a (suc i) x) (ran_on st (suc i) l o x)
    carried_advanced = record {
      lines_is = v.lines_is;
      ticks_is = ap (λ (k : ℕ). k + 1) v.ticks_is;
      releases_is = each (λ t y. t.releases ≡ y.releases) (after_releases m l (st.task n) o x ∙ v.releases_is n ∙ sym (outcome_releases (a.tally n) x)) v.releases_is;
      last_is = each (λ t y. t.last ≡ y.last) (after_last m l (st.task n) o x ∙ v.last_is n ∙ sym (outcome_last (a.tally n) x)) v.last_is;
      ends_is = each (λ t y. t.ends ≡ length y.ends) (after_ends m l (st.task n) o x (a.tally n) (v.ends_is n)) v.ends_is;
      pending_is = each (λ t y. y.pending ≡ is_open t.job) (outcome_pending (a.tally n) l o x (v.pending_is n ∙ ap is_open turn.job) ∙ ap is_open (sym (after_job m l (st.task n) o x))) v.pending_is;
      mark_is = λ xs k z e at. each_of n k w y st.task a.tally (λ t y. t.mark ≡ mark_after (m.plan z) (m.next z) 0 y.ends) (λ is. mark_here xs k z e at is) (v.mark_is xs k z e at);
      figures_is = v.figures_is;
      taken = v.taken;
      lasting = each (λ t y. busy t.job ≤ left t.job) (rw (after_job m l (st.task n) o x) (heard_lasts l o word x lasts says)) v.lasting;
      sound = sound_advanced;
    }
      where
        n : ℕ
        n = suc i

        w : Task
        w = task_after m l (st.task n) o x

        y : Tally
        y = with_outcome x (a.tally n)

        each : (P : Task → Tally → Type 0) → P w y → ((k : ℕ) → P (st.task k) (a.tally k)) → (k : ℕ) → P (put n w st.task k) (put n y a.tally k)
        each P new old k = each_of n k w y st.task a.tally P (λ e. new) (old k)

        mark_here : (xs : List Line) (k : ℕ) (z : Line) → a.lines ≡ Some xs → Numbered xs k z → k ≡ n → w.mark ≡ mark_after (m.plan z) (m.next z) 0 y.ends
        mark_here xs k z e at is =
            let same : ls ≡ xs = cc in
            let mine : Numbered xs n l = subst (λ (ys : List Line). Numbered ys n l) same turn.line in
            let line : l ≡ z = same_line xs n l z mine (subst (λ (j : ℕ). Numbered xs j z) is at) in
            subst (λ (q : Line). w.mark ≡ mark_after (m.plan q) (m.next q) 0 y.ends) line (after_mark m l (st.task n) o x (a.tally n) (v.mark_is xs n l e mine))

  -- ---- each call

  module _ (a : Account) (st : Status) (v : Carried m a st) where
    table_is : (ls : List Line) → st.lines ≡ Some ls → a.lines ≡ Some ls
    table_is ls e = sym v.lines_is ∙ e

    by_opening : (t : Table) (r : Result Bool Refusal) (st' : Status) → Opening m st t r st' → Carried m (noted a (call.Open t) (answer Opened r)) st'
    by_opening t r st' (already_open c there) = v
    by_opening t r st' (unfit {places = places} shut ans) = carried_closed a st places v shut
    by_opening t r st' (opens {places = places} shut (worked_out some ok figures admitted)) = carried_opened a st (lines_of t) places v.ticks_is ok figures

    by_start : (n : ℕ) (ls : List Line) (l : Line) (p : Plan) → a.lines ≡ Some ls → Numbered ls n l → Rested st.ticks l (st.task n) → (st.task n).job ≡ None → p ≡ m.plan l (st.task n).mark → Carried m (freed a n) (started st n l p)
    by_start zero ls l p there named rested shut planned = absurd (omega (arith, named.0.0))
    by_start (suc i) ls l p there named rested shut planned = carried_freed a st v ls there i l named p rested shut planned

    by_release_on : (n : ℕ) (ls : List Line) (l : Line) → a.lines ≡ Some ls → Numbered ls n l → (r : Result Plan Refusal) (st' : Status) → ReleaseOn m st n l r st' → Carried m (noted a (call.Release n) (answer Planned r)) st'
    by_release_on n ls l there named r st' (early c some soon) = v
    by_release_on n ls l there named r st' (still_open c rested job) = v
    by_release_on n ls l there named r st' (starts {p} rested shut planned) = by_start n ls l p there named rested shut planned

    by_release : (n : ℕ) (r : Result Plan Refusal) (st' : Status) → Release m st n r st' → Carried m (noted a (call.Release n) (answer Planned r)) st'
    by_release n r st' (no_table c shut) = v
    by_release n r st' (no_task c there none) = v
    by_release n r st' (of_line {ls} {l} there named on) = by_release_on n ls l (table_is ls there) named r st' on

    by_run : (n : ℕ) (ls : List Line) (l : Line) (o : OpenJob) (word : ℕ) (x : Outcome) → a.lines ≡ Some ls → Turn st ls n l o → heard o word ≡ Some x → Carried m (advanced a n x) (ran_on st n l o x)
    by_run zero ls l o word x there turn says = absurd (omega (arith, turn.line.0.0))
    by_run (suc i) ls l o word x there turn says = carried_advanced a st v ls there i l o turn word x says

    by_tick : (word : ℕ) (r : Result (ℕ × Outcome) Refusal) (st' : Status) → Tick m st word r st' → Carried m (noted a (call.Tick word) (answer ticked r)) st'
    by_tick word r st' (unopened c shut) = v
    by_tick word r st' (spent c there none) = v
    by_tick word r st' (ticks {ls} there more (idles quiet w)) =
        subst (λ (f : ℕ → Tally). Carried m (record { lines = a.lines; ticks = a.ticks + 1; tally = f }) (later st st.task)) (sym (put_same 0 a.tally)) (carried_idle a st ls v (table_is ls there) quiet)
    by_tick word r st' (ticks there more (no_job c quiet w)) = v
    by_tick word r st' (ticks there more (unheard c turn says)) = v
    by_tick word r st' (ticks {ls} there more (runs {n} {l} {o} {x} turn says)) = by_run n ls l o word x (table_is ls there) turn says

    -- a question leaves all as it was
    by_question : {A : Type 0} (n : ℕ) (told : List Line → Line → Result A Refusal → Type 0) (r : Result A Refusal) (st' : Status) → OfTask st n (λ ls l r st'. told ls l r × (st' ≡ st)) r st' → Carried m a st'
    by_question n told r st' (no_table c shut) = v
    by_question n told r st' (no_task c there none) = v
    by_question n told r st' (of_line there named (is, same)) = subst (Carried m a) (sym same) v

    pub carried_call : (c : Call) (r : Result Reply Refusal) (st' : Status) → Answers m st c r st' → Carried m (noted a c r) st'
    carried_call (call.Open t) r st' (x, e, step) = subst (λ (y : Result Reply Refusal). Carried m (noted a (call.Open t) y) st') (sym e) (by_opening t x st' step)
    carried_call (call.Release n) r st' (x, e, step) = subst (λ (y : Result Reply Refusal). Carried m (noted a (call.Release n) y) st') (sym e) (by_release n x st' step)
    carried_call (call.Tick w) r st' (x, e, step) = subst (λ (y : Result Reply Refusal). Carried m (noted a (call.Tick w) y) st') (sym e) (by_tick w x st' step)
    carried_call (call.Counts n) r st' (x, e, step) = by_question n _ x st' step
    carried_call (call.Figure n) r st' (x, e, step) = by_question n _ x st' step

  pub carried : {log : List Entry} {st : Status} → Served m log st → Carried m (account log) st
  carried no_call = carried_new
  carried (one_more {log} {st} {st'} e before step) = carried_call (account log) st (carried before) e.call e.answer st' step
