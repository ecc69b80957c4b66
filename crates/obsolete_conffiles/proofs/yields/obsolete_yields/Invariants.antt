use Rattle.std.proofs.Common.{◌≡◌, filter, map, take}
use Rattle.obsolete_conffiles.specs.Yields.{yields_obsolete}
use Rattle.obsolete_conffiles.proofs.yields.obsolete_yields.Given as goal

abbrev pub invariant-loop-record : goal.invariant-loop-record
invariant-loop-record l = l.found ≡ map (λ r. r.name) (filter (yields_obsolete l.diversions.ways l.incoming l.lists.lists l.names) (take l.record-index l.records))
