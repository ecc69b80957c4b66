use Rattle.std.proofs.Common.{◌≡◌, false, take}
use Rattle.std.specs.List.{list_any}
use Rattle.std.specs.Str.{bytes_eq}
use Rattle.aliases.specs.Aliases.{resolved}
use Rattle.dpkg_session.proofs.seen.has_conffile.Given as goal

abbrev pub invariant-loop-entry : goal.invariant-loop-entry
invariant-loop-entry l = list_any (λ entry. bytes_eq l.place (resolved l.diversions.ways.aliases entry.path)) (take l.entry-index l.entries) ≡ false
