-- The promises of a policy together, from the laws that it keeps one by one.
use Rattle.std.proofs.Common.{◌≡◌, ℕ, Bool, true}
use Rattle.tasks.specs.declared.line.Line.{Line}
use Rattle.tasks.specs.declared.job.Plan.{Plan}
use Rattle.tasks.specs.declared.job.Ending.{Ending}
use Rattle.policies.specs.Promises.{meant, Reliable, Bounded, Rising, Capped, Promises}

module _ {takes : Line → Bool} {plan : Line → ℕ → Plan} {next : Line → ℕ → Ending → ℕ} {demand : Line → ℕ → ℕ} where
  pub promised :
      ((l : Line) → takes l ≡ true → Reliable l (plan l) (next l))
      → ((l : Line) → takes l ≡ true → Bounded l (plan l) (next l) (demand l))
      → ((l : Line) → takes l ≡ true → demand l 0 ≡ 0)
      → ((l : Line) → takes l ≡ true → Rising (demand l))
      → ((l : Line) → takes l ≡ true → Capped (demand l))
      → Promises (meant takes plan next demand)
  promised reliable bounded none rising capped l taken = record {
    reliable = reliable l taken;
    bounded = bounded l taken;
    none = none l taken;
    rising = rising l taken;
    capped = capped l taken;
  }
