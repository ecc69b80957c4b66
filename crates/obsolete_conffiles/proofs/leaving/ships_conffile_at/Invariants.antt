use Rattle.std.proofs.Common.{◌≡◌, drop}
use Rattle.std.specs.List.{list_any}
use Rattle.std.specs.Str.{bytes_eq}
use Rattle.diversions.specs.Ways.{place}
use Rattle.obsolete_conffiles.proofs.leaving.ships_conffile_at.Given as goal

abbrev pub invariant-loop-path : goal.invariant-loop-path
invariant-loop-path l = record { rest : list_any (λ path. bytes_eq (place l.diversions.ways l.incoming.name path) l.at) l.incoming.conffiles ≡ list_any (λ path. bytes_eq (place l.diversions.ways l.incoming.name path) l.at) (drop l.path-index l.incoming.conffiles) }
