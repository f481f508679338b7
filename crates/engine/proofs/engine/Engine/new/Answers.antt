use Rattle.std.proofs.Common.{refl, arith}
use Rattle.engine.specs.Kept.{Fair}
use Rattle.engine.proofs.Tasks.{each_unused, all_unused}
use Rattle.engine.proofs.Found.{status_eq}
use Rattle.engine.proofs.engine.Engine.new.Goals as goal

pub invariant_of-result : goal.invariant_of-result
invariant_of-result g c = record { ticked = omega arith; fair = each_unused (Fair 0) (omega arith) 32 }

pub returns : goal.returns
returns g c = record { status = status_eq _ _ refl refl refl (all_unused 32); policy = refl }
