-- Response figures: the smallest time by which a job of a line and all that the lines above may ask for fit.
use Rattle.std.specs.Prelude.{◌≡◌, ℕ, ◌+◌, ◌-◌, ◌<◌, ◌≤◌, Bool, true, false, List, length, take, Ok, Err, Decides, sum_by, Result, slice_index, slice_index_or}
use Rattle.words.specs.Patterns.{up}
use Rattle.tasks.specs.declared.line.Line.{Line}
use Rattle.tasks.specs.declared.refusal.Refusal.{Refusal}
use Rattle.tasks.specs.declared.refusal.Refusal.TheVariants.{Declined, NoLines}
use Rattle.tasks.specs.Tables.{Numbered, IsLine}

-- the latest time at which a line's figure may stand: its period
abbrev pub limit : Line → ℕ
limit l = l.period

-- how many jobs of a line above count up to the time t: t ÷ T rounded up
abbrev pub jobs_by : Line → ℕ → ℕ
jobs_by h t = up t h.period

-- ---- a line's figure, by the demand of a policy
module _ (demand : Line → ℕ → ℕ) where
  -- what the lines above ask for up to the time t, each with its own period
  abbrev pub load_above : List Line → ℕ → ℕ
  load_above above t = sum_by (λ h. demand h (jobs_by h t)) above

  -- one job of the line, and what the lines above ask for up to t, fit into t
  abbrev pub Passes : List Line → Line → ℕ → Type 0
  Passes above l t = demand l 1 + load_above above t ≤ t

  -- the smallest time from 1 to the limit that passes; 0 where none passes
  pub data Figure (above : List Line) (l : Line) : ℕ → Type 0 where
    smallest : {t : ℕ} → 1 ≤ t → t ≤ limit l → Passes above l t → ((s : ℕ) → 1 ≤ s → s < t → Passes above l s → ⊥) → Figure above l t
    none : ((s : ℕ) → 1 ≤ s → s ≤ limit l → Passes above l s → ⊥) → Figure above l 0

  -- 32 places: the figures of the first n lines, and 0 past them
  pub record Figures (ls : List Line) (n : ℕ) (places : List ℕ) : Type 0 where
    pub size : length places ≡ 32
    pub each : (i : ℕ) → i < n → (d : Line) → Figure (take i ls) (slice_index_or ls i d) (slice_index places i)
    pub past : (i : ℕ) → n ≤ i → slice_index places i ≡ 0

-- no figure of the first n lines is 0
abbrev pub Admitted : ℕ → List ℕ → Type 0
Admitted n places = (i : ℕ) → i < n → 1 ≤ slice_index places i

-- all places are 0
abbrev pub Cleared : List ℕ → Type 0
Cleared places = (length places ≡ 32) × ((i : ℕ) → slice_index places i ≡ 0)

-- ---- lines taken and declined
module _ (takes : Line → Bool) where
  -- the first n lines are taken
  abbrev pub Taken : List Line → ℕ → Type 0
  Taken ls n = (i : ℕ) (d : Line) → i < n → takes (slice_index_or ls i d) ≡ true

  -- n is the number of the first line that is declined
  pub record FirstDeclined (ls : List Line) (n : ℕ) : Type 0 where
    pub within : IsLine ls n
    pub here : (l : Line) → Numbered ls n l → takes l ≡ false
    pub before : Taken ls (n - 1)

-- ---- what the figures of the lines of a table answer, and what the places hold then
pub data Answered (takes : Line → Bool) (demand : Line → ℕ → ℕ) (ls : List Line) (places : List ℕ) : Result Bool Refusal → Type 0 where
  worked_out : {b : Bool} → 1 ≤ length ls → Taken takes ls (length ls) → Figures demand ls (length ls) places → Decides b (Admitted (length ls) places) → Answered takes demand ls places (Ok b)
  no_lines : length ls ≡ 0 → Cleared places → Answered takes demand ls places (Err NoLines)
  declined : {n : ℕ} → FirstDeclined takes ls n → Cleared places → Answered takes demand ls places (Err (Declined n))
