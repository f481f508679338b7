-- Twins from what the question tests.
use Rattle.std.proofs.Common.{◌≡◌, ℕ, ◌%◌, ◌^◌, ◌<◌, Bool, true, false, MatchBool, Decides, length, sym, refl, ap, ◌∙◌, subst, mod-lt, arith}
use Rattle.std.specs.List.{range_with_len, HoldsAt, AllWithin}
use Rattle.std.proofs.lemmas.Bool.{false≢true}
use Rattle.std.proofs.lemmas.List.FromFn.{length-range_with_len, get_or-range_with_len}
use Rattle.words.specs.Bits.{bit, ones}
use Rattle.words.specs.Turns.{turned_bit, Turned}
use Rattle.words.proofs.TurnLemmas.{turned_round}
use Rattle.tasks.specs.declared.job.Version.{Version}
use Rattle.tasks.specs.declared.job.Version.TheVariants.{Bare, Detect, Correct}
use Rattle.tasks.specs.declared.line.Line.{Line}
use Rattle.tasks.specs.Lines.{time}
use Rattle.tasks.specs.Twins.{Twins}

-- a question that goes over the k places decides whether each bit is the turned one
pub Decides-bits : (w k s v : ℕ) (r : Bool)
    → MatchBool r (AllWithin (λ j. bit v j ≡ turned_bit w k s j) (range_with_len 0 k) 0 (length (range_with_len 0 k))) ((j : ℕ) × (j < length (range_with_len 0 k)) × HoldsAt (λ j. bit v j ≡ turned_bit w k s j → ⊥) (range_with_len 0 k) j) → Decides r ((j : ℕ) → j < k → bit v j ≡ turned_bit w k s j)
Decides-bits w k s v true h = (
  (λ _ j l. subst (λ i. bit v i ≡ turned_bit w k s i) (get_or-range_with_len 0 k j 0 l ∙ omega arith) (h j 0 (omega arith) (omega (arith, length-range_with_len 0 k)))),
  (λ _. refl),
)
Decides-bits w k s v false h =
    let j = h.0 in
    let below : j < k = omega (arith, h.1, length-range_with_len 0 k) in
    (λ e. absurd (false≢true e), λ t. absurd (h.2 0 (subst (λ i. bit v i ≡ turned_bit w k s i) (sym (get_or-range_with_len 0 k j 0 below ∙ omega arith)) (t j below))))

-- equal bits are enough: both words have m ones, and nothing at and above k
pub word_turned : (a b : Line) → a.m ≡ b.m → a.k ≡ b.k → (s : ℕ) → ((j : ℕ) → j < a.k → bit b.word j ≡ turned_bit a.word a.k s j) → Turned a.word a.k s b.word
word_turned a b m k s bits = record {
  bits = bits;
  reliable = ap (λ n. ones n b.word) k ∙ b.reliable ∙ sym m ∙ sym a.reliable;
  narrow = subst (λ (n : ℕ). b.word < 2 ^ n) (sym k) b.narrow;
}

pub times_agree : (a b : Line) → a.times.bare ≡ b.times.bare → a.times.detect ≡ b.times.detect → a.times.correct ≡ b.times.correct → (v : Version) → time a v ≡ time b v
times_agree a b u d r Bare = u
times_agree a b u d r Detect = d
times_agree a b u d r Correct = r

-- of two lines that agree in all but the names and the words, the turns decide
module _ (a b : Line) where
  pub Decides-twins : a.technique ≡ b.technique → a.m ≡ b.m → a.k ≡ b.k → a.times.bare ≡ b.times.bare → a.times.detect ≡ b.times.detect → a.times.correct ≡ b.times.correct → a.period ≡ b.period → (r : Bool)
      → MatchBool r ((j : ℕ) × (j < length (range_with_len 0 a.k)) × HoldsAt (λ s. Turned a.word a.k s b.word) (range_with_len 0 a.k) j) (AllWithin (λ s. Turned a.word a.k s b.word → ⊥) (range_with_len 0 a.k) 0 (length (range_with_len 0 a.k))) → Decides r (Twins a b)
  Decides-twins technique m k bare detect correct period true h = (
    (λ _. record { technique = technique; right = m; of = k; times = times_agree a b bare detect correct; period = period; word = (_, h.2 0) }),
    (λ _. refl),
  )
  Decides-twins technique m k bare detect correct period false h = (
    (λ e. absurd (false≢true e)),
    (λ t.
        let s = t.word.0 % a.k in
        let below : s < a.k = mod-lt t.word.0 (omega (arith, a.window)) in
        let at = get_or-range_with_len 0 a.k s 0 below in
        absurd (h s 0 (omega arith) (omega (arith, length-range_with_len 0 a.k)) (subst (λ i. Turned a.word a.k i b.word) (sym (at ∙ omega arith)) (turned_round a.word a.k t.word.0 b.word t.word.1)))),
  )
