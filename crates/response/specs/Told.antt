-- Demands that were told and are kept, so that the policy is asked again only for another number of jobs.
use Rattle.std.specs.Prelude.{◌≡◌, ℕ, ◌<◌, List, length, slice_index_or}
use Rattle.tasks.specs.declared.line.Line.{Line}
use Rattle.response.specs.declared.kept.Kept.{Kept}

-- before anything was asked: no jobs demand nothing
abbrev pub unasked : Kept
unasked = record { jobs = 0; demand = 0 }

-- what is kept is what the policy demands on the line
abbrev pub Told : (Line → ℕ → ℕ) → Line → Kept → Type 0
Told demand l k = k.demand ≡ demand l k.jobs

-- so it is with each of the lines above, place by place
abbrev pub AllTold : (Line → ℕ → ℕ) → List Line → List Kept → Type 0
AllTold demand above kept = (i : ℕ) (d : Line) → i < length above → Told demand (slice_index_or above i d) (slice_index_or kept i unasked)
