use Rattle.std.proofs.Common.{◌≡◌, drop}
use Rattle.std.specs.List.{list_any}
use Rattle.obsolete_conffiles.specs.Yields.{is_left_at}
use Rattle.obsolete_conffiles.proofs.leaving.leaves_at.Given as goal

abbrev pub invariant-loop-entry : goal.invariant-loop-entry
invariant-loop-entry l = record { rest : list_any (is_left_at l.diversions.ways l.incoming l.«record».name l.at) l.«record».conffiles ≡ list_any (is_left_at l.diversions.ways l.incoming l.«record».name l.at) (drop l.entry-index l.«record».conffiles) }
