use Rattle.std.proofs.Common.{◌≡◌, false, take}
use Rattle.std.specs.List.{list_any}
use Rattle.std.specs.Str.{bytes_eq}
use Rattle.aliases.specs.Aliases.{resolved}
use Rattle.dpkg_session.proofs.seen.has_place.Given as goal

abbrev pub invariant-loop-path : goal.invariant-loop-path
invariant-loop-path l = list_any (λ path. bytes_eq l.place (resolved l.diversions.ways.aliases path)) (take l.path-index l.paths) ≡ false
