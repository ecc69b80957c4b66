use Rattle.std.proofs.Common.{◌≡◌, ◌++◌, take, map, string_bytes}
use Rattle.std.specs.List.{flat_map}
use Rattle.queries.specs.Files.{matching_in}
use Rattle.queries.proofs.files.add_matching.Given as goal

abbrev pub invariant-loop-entry : goal.invariant-loop-entry
invariant-loop-entry l = string_bytes l.lines ≡ string_bytes l.initial.lines ++ flat_map (matching_in l.pattern l.lists.lists) (map (λ r. r.now) (take l.entry-index l.entries))
