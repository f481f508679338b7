use Rattle.std.proofs.Common.{◌≡◌, ◌+◌, ◌++◌, length, drop, vec_items}
use Rattle.tasks.specs.Lines.{names}
use Rattle.tasks.specs.Tables.{lines_of}
use Rattle.report.specs.Answer.{figure_lines}
use Rattle.report.proofs.report.figure_lines.Given as goal

abbrev pub invariant-loop-i : goal.invariant-loop-i
invariant-loop-i l =
    vec_items l.out ++ figure_lines (length l.yielded + 1) (names (drop (length l.yielded) (lines_of l.table))) l.figures ≡ figure_lines 1 (names (lines_of l.table)) l.figures
