use Rattle.std.proofs.Common.{◌≡◌, ◌++◌, take, map, string_bytes}
use Rattle.std.specs.List.{flat_map}
use Rattle.std.specs.Prelude.{option_copied}
use Rattle.queries.specs.Records.{audit_lines}
use Rattle.queries.proofs.records.add_audit.Given as goal

abbrev pub invariant-loop-entry : goal.invariant-loop-entry
invariant-loop-entry l = string_bytes l.lines ≡ string_bytes l.initial.lines ++ flat_map (audit_lines (option_copied l.root)) (map (λ r. r.now) (take l.entry-index l.entries))
