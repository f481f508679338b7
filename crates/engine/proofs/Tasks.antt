-- The records of all tasks, when one of them changes.
use Rattle.std.proofs.Common.{◌≡◌, ℕ, ◌-◌, ◌<◌, ◌≤◌, List, length, get_or, set, replicate, arith}
use Rattle.std.proofs.lemmas.Bool.Decides.{nat_tests}
use Rattle.std.proofs.lemmas.Grind.{common_steps}
use Rattle.engine.specs.declared.state.Task.{Task}
use Rattle.engine.specs.Jobs.{unused}
use Rattle.engine.specs.Status.{put, task_of}

-- what holds of every record holds after one is replaced, if it holds of the new one
pub each_set : (P : Task → Type 0) (ts : List Task) (i : ℕ) (t : Task) → ((k : ℕ) → P (get_or ts k unused)) → P t → (k : ℕ) → P (get_or (set ts i t) k unused)
each_set P ts i t h p k = grind (arith, common_steps)

-- what holds of an unused record holds of each of a row of them
pub each_unused : (P : Task → Type 0) → P unused → (n k : ℕ) → P (get_or (replicate n unused) k unused)
each_unused P p n k = grind (arith, common_steps)

unused_of : (n k : ℕ) → task_of (replicate n unused) k ≡ unused
unused_of n k = grind (arith, common_steps)

-- no task was released
pub all_unused : (n : ℕ) → task_of (replicate n unused) ≡ (λ k. unused)
all_unused n = λ i k. unused_of n k i

-- the record with a number stands one place before it
pub task_at : (ts : List Task) (n : ℕ) → 1 ≤ n → task_of ts n ≡ get_or ts (n - 1) unused
task_at ts n h = grind arith

-- one record replaced, by its number
task_set_at : (ts : List Task) (n i : ℕ) (t : Task) → 1 ≤ n → i ≡ n - 1 → i < length ts → (k : ℕ) → task_of (set ts i t) k ≡ put n t (task_of ts) k
task_set_at ts n i t pos is room k = grind (arith, nat_tests, common_steps)

pub task_set : (ts : List Task) (n i : ℕ) (t : Task) → 1 ≤ n → i ≡ n - 1 → i < length ts → task_of (set ts i t) ≡ put n t (task_of ts)
task_set ts n i t pos is room = λ j k. task_set_at ts n i t pos is room k j
