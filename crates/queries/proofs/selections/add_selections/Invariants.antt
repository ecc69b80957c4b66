use Rattle.std.proofs.Common.{◌≡◌, ◌++◌, take, map, string_bytes}
use Rattle.std.specs.List.{flat_map}
use Rattle.queries.specs.Selections.{selection_lines}
use Rattle.queries.proofs.selections.add_selections.Given as goal

abbrev pub invariant-loop-entry : goal.invariant-loop-entry
invariant-loop-entry l = string_bytes l.lines ≡ string_bytes l.initial.lines ++ flat_map selection_lines (map (λ r. r.now) (take l.entry-index l.entries))
