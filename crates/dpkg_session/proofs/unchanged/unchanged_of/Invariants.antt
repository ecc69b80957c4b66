use Rattle.std.proofs.Common.{◌≡◌, ℕ, List, map, take}
use Rattle.status_records.specs.declared.record.Record.{Record}
use Rattle.unit_reports.specs.Units.{touched_at}
use Rattle.dpkg_session.specs.Touched.{AreUnchanged}
use Rattle.dpkg_session.proofs.unchanged.unchanged_of.Given as goal

abbrev pub invariant-loop-copy : goal.invariant-loop-copy
invariant-loop-copy l = (before : List Record) (packages : List (List ℕ)) → l.copies ≡ map (touched_at before) packages → AreUnchanged before l.database.records (take l.copy-index packages) l.names
