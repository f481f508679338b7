-- Lemmas on runs, and on the endings that move a mark.
use Rattle.std.specs.Prelude.{◌≡◌, ℕ, true, List, [], ◌∷◌, ◌++◌}
use Rattle.tasks.specs.declared.job.Plan.{Plan}
use Rattle.tasks.specs.declared.job.Plan.TheVariants.{Bare, Detect, Correct, Recover}
use Rattle.tasks.specs.declared.job.Ending.{Ending}
use Rattle.tasks.specs.declared.job.Ending.TheVariants.{Blind, Clean, Bad, Sure}
use Rattle.policies.specs.Endings.{Allows, bare_blind, detect_bad, correct_sure, recover_clean, recover_sure}
use Rattle.policies.specs.Runs.{Run, mark_after}
use Rattle.policies.specs.Patterns.{moves}

-- what follows in a run is a run from the mark reached
pub run_rest : (plan : ℕ → Plan) (next : ℕ → Ending → ℕ) (mark : ℕ) (before rest : List Ending) → Run plan next mark (before ++ rest) → Run plan next (mark_after plan next mark before) rest
run_rest plan next mark [] rest r = r
run_rest plan next mark (e ∷ es) rest r = run_rest plan next (next mark e) es rest r.1

-- only an allowed ending moves the mark
pub moves_allowed : (p : Plan) (e : Ending) → moves p e ≡ true → Allows p e
moves_allowed Bare Blind h = bare_blind
moves_allowed Bare Clean h = cc
moves_allowed Bare Bad h = cc
moves_allowed Bare Sure h = cc
moves_allowed Detect Blind h = cc
moves_allowed Detect Clean h = cc
moves_allowed Detect Bad h = detect_bad
moves_allowed Detect Sure h = cc
moves_allowed Correct Blind h = cc
moves_allowed Correct Clean h = cc
moves_allowed Correct Bad h = cc
moves_allowed Correct Sure h = correct_sure
moves_allowed Recover Blind h = cc
moves_allowed Recover Clean h = recover_clean
moves_allowed Recover Bad h = cc
moves_allowed Recover Sure h = recover_sure
