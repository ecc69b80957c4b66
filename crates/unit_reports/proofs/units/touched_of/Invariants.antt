use Rattle.std.proofs.Common.{◌≡◌, map, take}
use Rattle.unit_reports.specs.Units.{touched_at}
use Rattle.unit_reports.proofs.units.touched_of.Given as goal

abbrev pub invariant-loop-name : goal.invariant-loop-name
invariant-loop-name l = l.touched.items ≡ map (touched_at l.database.records) (take l.name-index l.names)
