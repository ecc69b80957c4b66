use Rattle.std.proofs.Common.{◌≡◌, drop}
use Rattle.std.specs.List.{list_all}
use Rattle.obsolete_conffiles.specs.Yields.{may_meet}
use Rattle.obsolete_conffiles.proofs.meeting.all_may_meet.Given as goal

abbrev pub invariant-loop-listed : goal.invariant-loop-listed
invariant-loop-listed l = record { rest : list_all (may_meet l.diversions.ways l.incoming l.lists.lists l.«record» l.file) l.owners ≡ list_all (may_meet l.diversions.ways l.incoming l.lists.lists l.«record» l.file) (drop l.listed-index l.owners) }
