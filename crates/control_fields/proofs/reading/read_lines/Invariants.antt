use Rattle.std.proofs.Common.{◌≡◌, ◌+◌, ◌≤◌, ℕ, List, ◌++◌, length}
use Rattle.std.specs.Prelude.{IsTrue}
use Rattle.control_fields.specs.Grammar.{Run, start, lines_of, with_last}
use Rattle.control_fields.proofs.reading.read_lines.Given as goal

abbrev pub invariant-loop-line : goal.invariant-loop-line
invariant-loop-line l = (front : List (List ℕ)) × Run 1 front start (record { done = l.done.items; begun = l.begun }) × (lines_of l.bytes ≡ front ++ lines_of l.rest) × (l.number ≡ length front + 1) × (l.number + length l.rest ≤ length l.bytes + 1)
    × (IsTrue l.single → length (with_last l.done.items l.begun) ≤ 1)

abbrev pub decreases-loop-line : goal.decreases-loop-line
decreases-loop-line l = length l.rest
