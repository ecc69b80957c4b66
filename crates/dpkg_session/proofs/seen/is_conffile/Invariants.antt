use Rattle.std.proofs.Common.{◌≡◌, false, take}
use Rattle.std.specs.List.{list_any}
use Rattle.dpkg_session.specs.Diversions.{has_conffile_at}
use Rattle.dpkg_session.proofs.seen.is_conffile.Given as goal

abbrev pub invariant-loop-entry : goal.invariant-loop-entry
invariant-loop-entry l = list_any (has_conffile_at l.diversions.ways.aliases l.path) (take l.entry-index l.database.records) ≡ false
