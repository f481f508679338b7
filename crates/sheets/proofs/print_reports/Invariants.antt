use Rattle.std.proofs.Common.{◌≡◌, ◌+◌, ◌≤◌, length}
use Rattle.std.specs.Slice.Iter.{split_inclusive_rest}
use Rattle.sheets.proofs.print_reports.Given as goal

-- what the lines gone over and those to come hold together is the input, and a text starts at one of its places
abbrev pub invariant-loop-line : goal.invariant-loop-line
invariant-loop-line l =
    (l.start ≤ l.end) × (l.end + length (split_inclusive_rest l.line-iterator) ≡ length l.input)
