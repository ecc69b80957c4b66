use Rattle.std.proofs.Common.{◌≡◌, ◌++◌, take, string_bytes}
use Rattle.std.specs.List.{flat_map}
use Rattle.queries.specs.Paths.{path_line}
use Rattle.queries.proofs.files.add_paths.Given as goal

abbrev pub invariant-loop-path : goal.invariant-loop-path
invariant-loop-path l = string_bytes l.lines ≡ string_bytes l.initial.lines ++ flat_map path_line (take l.path-index l.paths)
