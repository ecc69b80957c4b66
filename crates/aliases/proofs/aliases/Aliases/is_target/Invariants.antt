use Rattle.std.proofs.Common.{◌≡◌, length}
use Rattle.std.specs.String.{string_bytes}
use Rattle.aliases.specs.Aliases.{is_target}
use Rattle.aliases.specs.Entries.{aliases_of}
use Rattle.aliases.proofs.aliases.Aliases.is_target.Given as goal

abbrev pub invariant-loop-target : goal.invariant-loop-target
invariant-loop-target l = is_target (aliases_of string_bytes l.entries) l.path ≡ is_target l.self l.path

abbrev pub decreases-loop-target : goal.decreases-loop-target
decreases-loop-target l = length l.entries
