-- The techniques keep the promises: FR by itself, the four that go by bits together.
use Rattle.std.specs.Prelude.{◌≡◌, ℕ, zero, suc, ◌+◌, ◌*◌, ◌%◌, ◌<◌, ◌≤◌, true, false, cond, List, [], ◌∷◌, length, refl}
use Rattle.std.proofs.Common.{◌∙◌, suc-mul, mul-le-mul_right, mul-le-mul_left, arith}
use Rattle.std.proofs.Math.Path.{ap}
use Rattle.words.specs.Sums.{row}
use Rattle.words.specs.Bits.{bit}
use Rattle.words.specs.Turns.{turned_bit}
use Rattle.words.proofs.Sums.{row_none, row_round, row_turned}
use Rattle.words.proofs.Rows.{row_mod, row_first, row_last, row_greatest, greatest_row_none, greatest_row_rises, greatest_row_bound}
use Rattle.tasks.specs.declared.line.Line.{Line}
use Rattle.tasks.specs.declared.technique.Technique.{Technique}
use Rattle.tasks.specs.declared.technique.Technique.TheVariants.{Fr, Sre, Sdr, Dre, Ddr}
use Rattle.tasks.specs.declared.job.Plan.{Plan}
use Rattle.tasks.specs.declared.job.Plan.TheVariants.{Bare, Detect, Correct, Recover}
use Rattle.tasks.specs.declared.job.Ending.{Ending}
use Rattle.policies.specs.declared.pattern.BitPlans.{BitPlans}
use Rattle.policies.specs.Endings.{Allows, bare_blind, detect_clean, detect_bad, correct_sure, recover_clean, recover_sure, right, cost, worst}
use Rattle.policies.specs.Runs.{Run, mark_after, costs, rights}
use Rattle.policies.specs.Promises.{most_per_job, Keeps}
use Rattle.policies.specs.Patterns.{moves, plan_of_bit, pattern_plan, pattern_next, cost_of_bit, bit_cost, pattern_demand}
use Rattle.policies.specs.Techniques.{rearranging, technique_plan, technique_next, technique_demand}
use Rattle.policies.specs.RunLemmas.{run_rest}
use Rattle.policies.specs.Costs.{cost_small}

-- no job costs more than a policy may demand for it
pub worst_small : (l : Line) (p : Plan) → worst l p ≤ most_per_job
worst_small l Bare = omega (arith, l.ordered)
worst_small l Detect = omega (arith, l.ordered)
worst_small l Correct = omega (arith, l.ordered)
worst_small l Recover = omega (arith, l.ordered)

-- ---- FR

fr_right : {e : Ending} → Allows Correct e → right e ≡ 1
fr_right correct_sure = refl

fr_rights : (mark : ℕ) (es : List Ending) → Run (λ _. Correct) (λ q _. q) mark es → rights es ≡ length es
fr_rights mark [] r = refl
fr_rights mark (e ∷ es) r = omega (arith, fr_right r.0, fr_rights mark es r.1)

fr_costs : (l : Line) (mark : ℕ) (es : List Ending) → costs (λ _. Correct) (λ q _. q) l mark es ≡ length es * worst l Correct
fr_costs l mark [] = omega arith
fr_costs l mark (e ∷ es) = omega (arith, fr_costs l mark es, suc-mul (length es) (worst l Correct))

fr_keeps : (l : Line) → Keeps l (technique_plan Fr l) (technique_next Fr l) (technique_demand Fr l)
fr_keeps l = record {
  reliable = λ before window r n. omega (arith, fr_rights _ window (run_rest (λ _. Correct) (λ q _. q) 0 before window r), l.window);
  bounded = λ before jobs r n. omega (arith, fr_costs l (mark_after (λ _. Correct) (λ q _. q) 0 before) jobs);
  none = omega arith;
  rising = λ a b h n. mul-le-mul_right (worst l Correct) h;
  capped = λ n h. omega (arith, mul-le-mul_left n (worst_small l Correct));
}

-- ---- the techniques that go by bits

-- the plans of a zero and a one
data Plans : BitPlans → Type 0 where
  sre : Plans (record { on_zero = Bare; on_one = Correct })
  sdr : Plans (record { on_zero = Bare; on_one = Recover })
  dre : Plans (record { on_zero = Detect; on_one = Correct })
  ddr : Plans (record { on_zero = Detect; on_one = Recover })

-- what one allowed ending does: the mark stays, the job is right and costs no more than a zero; or the mark
-- goes on, the job is right if the bit is 1 and costs no more than the bit
data Step (l : Line) (p : BitPlans) (b : ℕ) (e : Ending) : Type 0 where
  waits : moves (plan_of_bit p b) e ≡ false → 1 ≤ right e → cost l (plan_of_bit p b) e ≤ worst l p.on_zero → Step l p b e
  goes_on : moves (plan_of_bit p b) e ≡ true → b ≤ right e → cost l (plan_of_bit p b) e ≤ cost_of_bit (worst l p.on_zero) (worst l p.on_one) b → Step l p b e

step : (l : Line) {p : BitPlans} → Plans p → (b : ℕ) {e : Ending} → b ≤ 1 → Allows (plan_of_bit p b) e → Step l p b e
step l sre zero h bare_blind = goes_on refl (omega arith) (omega arith)
step l sre (suc b) h correct_sure = goes_on refl (omega arith) (omega arith)
step l sdr zero h bare_blind = goes_on refl (omega arith) (omega arith)
step l sdr (suc b) h recover_clean = goes_on refl (omega arith) (omega arith)
step l sdr (suc b) h recover_sure = goes_on refl (omega arith) (omega arith)
step l dre zero h detect_clean = waits refl (omega arith) (omega arith)
step l dre zero h detect_bad = goes_on refl (omega arith) (omega arith)
step l dre (suc b) h correct_sure = goes_on refl (omega arith) (omega arith)
step l ddr zero h detect_clean = waits refl (omega arith) (omega arith)
step l ddr zero h detect_bad = goes_on refl (omega arith) (omega arith)
step l ddr (suc b) h recover_clean = goes_on refl (omega arith) (omega arith)
step l ddr (suc b) h recover_sure = goes_on refl (omega arith) (omega arith)

-- a zero costs least
least : (l : Line) {p : BitPlans} → Plans p → (b : ℕ) → worst l p.on_zero ≤ cost_of_bit (worst l p.on_zero) (worst l p.on_one) b
least l plans zero = omega arith
least l sre (suc b) = omega (arith, l.ordered)
least l sdr (suc b) = omega (arith, l.ordered)
least l dre (suc b) = omega (arith, l.ordered)
least l ddr (suc b) = omega (arith, l.ordered)

module _ (l : Line) {p : BitPlans} (plans : Plans p) (s : ℕ) where
  b : ℕ → ℕ
  b = turned_bit l.word l.k s

  c : ℕ → ℕ
  c x = cost_of_bit (worst l p.on_zero) (worst l p.on_one) (turned_bit l.word l.k s x)

  small : (x : ℕ) → turned_bit l.word l.k s x ≤ 1
  small x = omega arith

  some : 0 < l.k
  some = omega (arith, l.window)

  stays : (q : ℕ) (e : Ending) → moves (pattern_plan p s l q) e ≡ false → pattern_next p s l q e ≡ q
  stays q e h = ap (λ t. cond t ((q + 1) % l.k) q) h

  goes : (q : ℕ) (e : Ending) → moves (pattern_plan p s l q) e ≡ true → pattern_next p s l q e ≡ (q + 1) % l.k
  goes q e h = ap (λ t. cond t ((q + 1) % l.k) q) h

  -- the row from the mark after a move is the row from the next place
  on : (f : ℕ → ℕ) (q n : ℕ) → row f l.k ((q + 1) % l.k) n ≡ row f l.k (suc q) n
  on f q n = row_mod f l.k (q + 1) n ∙ ap (λ i. row f l.k i n) (omega arith)

  -- a run has at least as many right endings as the bits in a row from its mark have ones
  rights_row : (q : ℕ) (es : List Ending) → Run (pattern_plan p s l) (pattern_next p s l) q es → row b l.k q (length es) ≤ rights es
  unfolding b c
  rights_row q [] r = omega (arith, row_none b l.k q)
  rights_row q (e ∷ es) r =
      let n = length es in
      let rest = rights_row (pattern_next p s l q e) es r.1 in
      elim (step l plans (turned_bit l.word l.k s (q % l.k)) (small (q % l.k)) r.0) [
        | waits m right cost ↦ omega (arith, rest, ap (λ i. row b l.k i n) (stays q e m), row_last b l.k q n, small ((q + n) % l.k), right)
        | goes_on m right cost ↦ omega (arith, rest, ap (λ i. row b l.k i n) (goes q e m), on b q n, row_first b l.k q n, right)
      ]

  -- it costs no more than the bits in a row
  costs_row : (q : ℕ) (es : List Ending) → Run (pattern_plan p s l) (pattern_next p s l) q es → costs (pattern_plan p s l) (pattern_next p s l) l q es ≤ row c l.k q (length es)
  unfolding c
  costs_row q [] r = omega (arith, row_none c l.k q)
  costs_row q (e ∷ es) r =
      let n = length es in
      let rest = costs_row (pattern_next p s l q e) es r.1 in
      elim (step l plans (turned_bit l.word l.k s (q % l.k)) (small (q % l.k)) r.0) [
        | waits m right cost ↦ omega (arith, rest, ap (λ i. row c l.k i n) (stays q e m), row_last c l.k q n, least l plans (turned_bit l.word l.k s ((q + n) % l.k)), cost)
        | goes_on m right cost ↦ omega (arith, rest, ap (λ i. row c l.k i n) (goes q e m), on c q n, row_first c l.k q n, cost)
      ]

  pattern_keeps : Keeps l (pattern_plan p s l) (pattern_next p s l) (pattern_demand p l)
  unfolding b c
  pattern_keeps = record {
    reliable = λ before window r n.
        let q = mark_after (pattern_plan p s l) (pattern_next p s l) 0 before in
        omega (arith, rights_row q window (run_rest (pattern_plan p s l) (pattern_next p s l) 0 before window r), ap (row b l.k q) n, row_turned (bit l.word) l.k s q l.k, row_round (bit l.word) l.k (q + s), l.reliable);
    bounded = λ before jobs r n.
        let q = mark_after (pattern_plan p s l) (pattern_next p s l) 0 before in
        omega (arith, costs_row q jobs (run_rest (pattern_plan p s l) (pattern_next p s l) 0 before jobs r), row_turned (bit_cost p l) l.k s q (length jobs), row_greatest (bit_cost p l) l.k some (q + s) (length jobs));
    none = greatest_row_none (bit_cost p l) l.k;
    rising = λ x y h n. greatest_row_rises (bit_cost p l) l.k some x y h;
    capped = λ n h. omega (arith, greatest_row_bound (bit_cost p l) l.k most_per_job (λ x. cost_small (worst l p.on_zero) (worst l p.on_one) l.word x (worst_small l p.on_zero) (worst_small l p.on_one)) n);
  }

-- ---- all five

pub technique_keeps : (t : Technique) (l : Line) → Keeps l (technique_plan t l) (technique_next t l) (technique_demand t l)
technique_keeps Fr l = fr_keeps l
technique_keeps Sre l = pattern_keeps l sre 0
technique_keeps Sdr l = pattern_keeps l sdr 0
technique_keeps Dre l = pattern_keeps l dre (rearranging l)
technique_keeps Ddr l = pattern_keeps l ddr (rearranging l)
