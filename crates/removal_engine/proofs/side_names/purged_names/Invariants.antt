use Rattle.std.proofs.Common.{◌≡◌, take}
use Rattle.std.specs.List.{flat_map}
use Rattle.diversions.specs.Ways.{place}
use Rattle.removal_engine.specs.Names.{side_names_at}
use Rattle.removal_engine.proofs.side_names.purged_names.Given as goal

abbrev pub invariant-loop-conffile : goal.invariant-loop-conffile
invariant-loop-conffile l = l.names.items ≡ flat_map (λ e. side_names_at l.diversions.ways l.lists.lists l.entry.name (place l.diversions.ways l.entry.name e.path)) (take l.conffile-index l.entry.conffiles)
