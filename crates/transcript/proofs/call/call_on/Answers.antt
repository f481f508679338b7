use Rattle.std.proofs.Common.{codes, refl}
use Rattle.service.specs.declared.log.Call.TheVariants.{Release, Tick, Counts, Figure}
use Rattle.transcript.specs.Calls.{a_release, a_tick, the_counts, the_figure}
use Rattle.transcript.proofs.Compared.{same, apart}
use Rattle.transcript.proofs.Saying.{says_open, says_numbered, says_none, same_word}
use Rattle.transcript.proofs.call.call_on.Goals as goal

pub returns-then-eq : goal.returns-then-eq
returns-then-eq c = says_open c.args.table.now c.args.line.now (same _ _ _ c.if-eq.ensures c.as_slice.ensures)

pub returns-in_err-word : goal.returns-in_err-word
returns-in_err-word c =
    let none = c.in_err-word.ensures in
    rw c.from_residual.ensures
    (λ call said.
    says_none c.args.table.now c.args.line.now
    (apart _ _ _ c.if-eq.ensures c.as_slice.ensures)
    (λ n f. none (codes "release") n refl f) (λ n f. none (codes "tick") n refl f) (λ n f. none (codes "counts") n refl f) (λ n f. none (codes "figure") n refl f)
    c.args.line.now refl said)

pub returns-then-eq-2 : goal.returns-then-eq-2
returns-then-eq-2 c =
    says_numbered c.args.table.now c.args.line.now (codes "release") Release (λ ds x. a_release x) c.in_ok-word.word.now (same _ _ _ c.if-eq-2.ensures c.as_slice-2.ensures) c.in_ok-word.number c.in_ok-word.ensures.1

pub returns-then-eq-3 : goal.returns-then-eq-3
returns-then-eq-3 c =
    says_numbered c.args.table.now c.args.line.now (codes "tick") Tick (λ ds x. a_tick x) c.in_ok-word.word.now (same _ _ _ c.if-eq-3.ensures c.as_slice-else-eq-2.ensures) c.in_ok-word.number c.in_ok-word.ensures.1

pub returns-then-eq-4 : goal.returns-then-eq-4
returns-then-eq-4 c =
    says_numbered c.args.table.now c.args.line.now (codes "counts") Counts (λ ds x. the_counts x) c.in_ok-word.word.now (same _ _ _ c.if-eq-4.ensures c.as_slice-else-eq-3.ensures) c.in_ok-word.number c.in_ok-word.ensures.1

pub returns-then-eq-5 : goal.returns-then-eq-5
returns-then-eq-5 c =
    says_numbered c.args.table.now c.args.line.now (codes "figure") Figure (λ ds x. the_figure x) c.in_ok-word.word.now (same _ _ _ c.if-eq-5.ensures c.as_slice-else-eq-4.ensures) c.in_ok-word.number c.in_ok-word.ensures.1

pub returns-else-eq-5 : goal.returns-else-eq-5
returns-else-eq-5 c =
    let line = c.args.line.now in
    let word = c.in_ok-word.word.now in
    let said = c.in_ok-word.ensures in
    λ call says.
    says_none c.args.table.now line
    (apart _ _ _ c.if-eq.ensures c.as_slice.ensures)
    (λ n f. apart _ _ _ c.if-eq-2.ensures c.as_slice-2.ensures (same_word line word (codes "release") c.in_ok-word.number n said.0 refl said.1 f))
    (λ n f. apart _ _ _ c.if-eq-3.ensures c.as_slice-else-eq-2.ensures (same_word line word (codes "tick") c.in_ok-word.number n said.0 refl said.1 f))
    (λ n f. apart _ _ _ c.if-eq-4.ensures c.as_slice-else-eq-3.ensures (same_word line word (codes "counts") c.in_ok-word.number n said.0 refl said.1 f))
    (λ n f. apart _ _ _ c.if-eq-5.ensures c.as_slice-else-eq-4.ensures (same_word line word (codes "figure") c.in_ok-word.number n said.0 refl said.1 f))
    line refl says
