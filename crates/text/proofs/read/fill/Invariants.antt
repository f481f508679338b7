use Rattle.std.proofs.Common.{◌≡◌, []}
use Rattle.tasks.specs.Rows.{rows_of}
use Rattle.text.specs.Cuts.{lines_in}
use Rattle.text.specs.Reading.{with_lines}
use Rattle.text.specs.Layers.{lines_left}
use Rattle.text.proofs.Cutting.{AllUpTo}
use Rattle.text.proofs.read.fill.Given as goal

abbrev pub invariant-loop-line : goal.invariant-loop-line
invariant-loop-line l =
    (with_lines (rows_of l.table) (lines_left l.line-iterator) ≡ with_lines [] (lines_in l.text))
    × AllUpTo 8192 (lines_left l.line-iterator)
