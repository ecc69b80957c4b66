use Rattle.std.proofs.Common.{◌≡◌, ◌++◌, take, string_bytes}
use Rattle.std.specs.List.{flat_map}
use Rattle.queries.specs.Files.{search_line}
use Rattle.queries.proofs.files.add_listed.Given as goal

abbrev pub invariant-loop-listed : goal.invariant-loop-listed
invariant-loop-listed l = string_bytes l.lines ≡ string_bytes l.initial.lines ++ flat_map search_line (take l.listed-index l.all)
