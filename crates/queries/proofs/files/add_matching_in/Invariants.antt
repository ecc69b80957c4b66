use Rattle.std.proofs.Common.{◌≡◌, ◌++◌, take, string_bytes}
use Rattle.std.specs.List.{flat_map}
use Rattle.queries.specs.Files.{matching_lines}
use Rattle.queries.proofs.files.add_matching_in.Given as goal

abbrev pub invariant-loop-path : goal.invariant-loop-path
invariant-loop-path l = string_bytes l.lines ≡ string_bytes l.initial.lines ++ flat_map (matching_lines l.pattern l.name) (take l.path-index l.path-items)
