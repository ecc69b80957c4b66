use Rattle.std.proofs.Common.{◌≡◌, length}
use Rattle.std.specs.String.{string_bytes}
use Rattle.aliases.specs.Entries.{aliases_of}
use Rattle.aliases.proofs.aliases.Aliases.same.Given as goal

abbrev pub invariant-loop-place : goal.invariant-loop-place
invariant-loop-place l = (aliases_of string_bytes l.ones ≡ aliases_of string_bytes l.others → l.self ≡ l.other) × (l.self ≡ l.other → aliases_of string_bytes l.ones ≡ aliases_of string_bytes l.others)

abbrev pub decreases-loop-place : goal.decreases-loop-place
decreases-loop-place l = length l.ones
