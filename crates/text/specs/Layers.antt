-- What the layers of the reader answer: field, line, table.
use Rattle.std.specs.Prelude.{◌≡◌, ℕ, ◌+◌, ◌^◌, ◌<◌, ◌≤◌, Bool, true, false, List, [], ◌∷◌, length, drop, Some, None, Result, MatchResult}
use Rattle.words.specs.Bits.{ones}
use Rattle.tasks.specs.Named.{name_bytes}
use Rattle.tasks.specs.declared.line.Times.{Times}
use Rattle.tasks.specs.declared.refusal.Refusal.{Refusal}
use Rattle.text.specs.declared.part.Part.{Part}
use Rattle.text.specs.declared.line.Fields.{Fields}
use Rattle.text.specs.declared.line.Head.{Head}
use Rattle.text.specs.declared.lines.Lines.{Lines}
use Rattle.text.specs.Cuts.{Placed, placed, parted, ended, closed, count}
use Rattle.text.specs.Rules.{Rule, first_broken, num}
use Rattle.text.specs.Values.{technique_of, field_word}

-- the bytes of a part, with their place
abbrev pub part_of : Part → Placed
part_of p = placed p.place p.bytes.now

-- every place of the part can be told
abbrev pub Within : Part → Type 0
Within p = p.place + length p.bytes.now < 2 ^ 64

-- b decides: a value that has P, or the refusal e
abbrev pub Held : {X : Type 0} → Result X Refusal → Bool → Refusal → (X → Type 0) → Type 0
Held r b e P = MatchResult r (λ x. (b ≡ true) × P x) (λ y. (b ≡ false) × (y ≡ e))

-- the rules decide: a value that has P where none is broken, or the refusal of the first that is
abbrev pub Says : {X : Type 0} → Result X Refusal → List Rule → (X → Type 0) → Type 0
Says r rs P = MatchResult r (λ x. (first_broken rs ≡ None) × P x) (λ e. first_broken rs ≡ Some e)

-- first is what stands before the first mark, rest what follows it
pub record Cut (mark : ℕ) (whole first rest : Placed) : Type 0 where
  pub fields : 1 ≤ count mark whole.bytes → parted mark whole.place whole.bytes ≡ first ∷ parted mark rest.place rest.bytes
  pub left : 1 ≤ count mark whole.bytes → count mark whole.bytes ≡ 1 + count mark rest.bytes
  pub lines : 1 ≤ length whole.bytes → ended mark whole.place whole.bytes ≡ first ∷ ended mark rest.place rest.bytes
  pub shorter : 1 ≤ length whole.bytes → length rest.bytes < length whole.bytes
  pub within : rest.place + length rest.bytes ≤ whole.place + length whole.bytes
  pub before : first.place + length first.bytes ≤ whole.place + length whole.bytes

-- the lines that are left
abbrev pub lines_left : Lines → List Placed
lines_left l = closed 10 l.start (drop l.start l.text.now)

-- the fields of a line, in order
abbrev pub nine : Fields → List Placed
nine f =
    part_of f.name ∷ part_of f.technique ∷ part_of f.m ∷ part_of f.k ∷ part_of f.pattern
    ∷ part_of f.bare ∷ part_of f.detect ∷ part_of f.correct ∷ part_of f.period ∷ []

-- what the first five fields say
pub record HeadSays (f : Fields) (h : Head) : Type 0 where
  pub name : name_bytes h.name ≡ f.name.bytes.now
  pub technique : h.technique ≡ technique_of f.technique.bytes.now
  pub right : h.quota.m ≡ num (part_of f.m)
  pub of : h.quota.k ≡ num (part_of f.k)
  pub word : h.word ≡ field_word (num (part_of f.m)) (num (part_of f.k)) f.pattern.bytes.now
  pub reliable : ones h.quota.k h.word ≡ h.quota.m
  pub narrow : h.word < 2 ^ h.quota.k

-- what the last four fields say
pub record TimesSay (f : Fields) (t : Times) (period : ℕ) : Type 0 where
  pub bare : t.bare ≡ num (part_of f.bare)
  pub detect : t.detect ≡ num (part_of f.detect)
  pub correct : t.correct ≡ num (part_of f.correct)
  pub period_is : period ≡ num (part_of f.period)
  pub ordered : (1 ≤ t.bare) × (t.bare < t.detect) × (t.detect < t.correct) × (t.correct ≤ period) × (period ≤ 1000000)
