use Rattle.std.proofs.Common.{length}
use Rattle.std.specs.String.{string_bytes}
use Rattle.aliases.specs.Entries.{aliases_of}
use Rattle.aliases.proofs.Tables.{AreFreeAlike}
use Rattle.aliases.proofs.aliases.Aliases.is_free.Given as goal

abbrev pub invariant-loop-place : goal.invariant-loop-place
invariant-loop-place l = AreFreeAlike (aliases_of string_bytes l.entries) l.self l.path

abbrev pub decreases-loop-place : goal.decreases-loop-place
decreases-loop-place l = length l.entries
