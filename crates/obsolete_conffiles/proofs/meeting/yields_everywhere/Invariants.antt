use Rattle.std.proofs.Common.{◌≡◌, drop}
use Rattle.std.specs.List.{list_all}
use Rattle.obsolete_conffiles.specs.Yields.{yields_at}
use Rattle.obsolete_conffiles.proofs.meeting.yields_everywhere.Given as goal

abbrev pub invariant-loop-file : goal.invariant-loop-file
invariant-loop-file l = record { rest : list_all (yields_at l.diversions.ways l.incoming l.lists.lists l.«record») l.incoming.files ≡ list_all (yields_at l.diversions.ways l.incoming l.lists.lists l.«record») (drop l.file-index l.incoming.files) }
