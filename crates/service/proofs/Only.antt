-- Each list of calls has one list of answers.
use Rattle.std.proofs.Common.{◌≡◌, List, ◌∷◌, length, Result, refl, ap, subst, arith}
use Rattle.tasks.specs.declared.refusal.Refusal.{Refusal}
use Rattle.policies.specs.Promises.{Meaning}
use Rattle.engine.specs.Status.{Status}
use Rattle.engine.proofs.Sole.{opening_sole, release_sole, tick_sole, counts_sole, figure_sole}
use Rattle.service.specs.declared.log.Call.{Call}
use Rattle.service.specs.declared.log.Reply.{Reply}
use Rattle.service.specs.declared.log.Entry.{Entry}
use Rattle.service.specs.Served.{calls, Answers, Served, no_call, one_more, Alone}

module _ (m : Meaning) where
  one_answer : (st : Status) (c : Call) (r r' : Result Reply Refusal) (st1 st2 : Status) → Answers m st c r st1 → Answers m st c r' st2 → (r ≡ r') × (st1 ≡ st2)
  one_answer st c r r' st1 st2 a b = grind (arith, opening_sole m, release_sole m, tick_sole m, counts_sole, figure_sole)

  one_log : {log other : List Entry} {st st' : Status} → Served m other st' → Served m log st → calls other ≡ calls log → (other ≡ log) × (st' ≡ st)
  one_log no_call no_call p = (refl, refl)
  one_log no_call (one_more e b s) p = absurd (omega (arith, ap length p))
  one_log (one_more e b s) no_call p = absurd (omega (arith, ap length p))
  one_log (one_more {log = xs} {st = st1} {st' = st1'} e b s) (one_more {log = ys} {st = st2} {st' = st2'} f c u) p =
      let here : e.call ≡ f.call = cc in
      let rest : calls xs ≡ calls ys = cc in
      let before = one_log b c rest in
      let moved : Answers m st2 f.call e.answer st1' = subst (λ (k : Call). Answers m st2 k e.answer st1') here (subst (λ (w : Status). Answers m w e.call e.answer st1') before.1 s) in
      let z = one_answer st2 f.call e.answer f.answer st1' st2' moved u in
      ((λ i. record { call = here i; answer = z.0 i } ∷ before.0 i), z.1)

  pub alone : {log : List Entry} {st : Status} → Served m log st → Alone m log
  alone s other st' o p = (one_log o s p).0
