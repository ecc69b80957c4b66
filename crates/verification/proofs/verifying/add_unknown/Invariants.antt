use Rattle.std.proofs.Common.{◌≡◌, ◌++◌, take, string_bytes}
use Rattle.std.specs.List.{flat_map}
use Rattle.verification.specs.Verified.{unknown_lines}
use Rattle.verification.proofs.verifying.add_unknown.Given as goal

abbrev pub invariant-loop-name : goal.invariant-loop-name
invariant-loop-name l = string_bytes l.lines ≡ string_bytes l.initial.lines ++ flat_map (unknown_lines l.database.records) (take l.name-index l.names)
