use Rattle.text.specs.Layers.{lines_left}
use Rattle.transcript.proofs.Parting.{Left}
use Rattle.transcript.proofs.script.split_script.Given as goal

abbrev pub invariant-loop-line : goal.invariant-loop-line
invariant-loop-line l = Left l.text (lines_left l.line-iterator)
