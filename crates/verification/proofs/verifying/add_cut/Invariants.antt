use Rattle.std.proofs.Common.{◌≡◌, ◌++◌, take, string_bytes}
use Rattle.std.specs.List.{flat_map}
use Rattle.verification.specs.Verified.{cut_lines, wanted}
use Rattle.verification.proofs.verifying.add_cut.Given as goal

abbrev pub invariant-loop-entry : goal.invariant-loop-entry
invariant-loop-entry l = string_bytes l.lines ≡ string_bytes l.initial.lines ++ flat_map cut_lines (wanted l.names (take l.entry-index l.records))
