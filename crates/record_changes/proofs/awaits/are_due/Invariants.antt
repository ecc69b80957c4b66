use Rattle.std.proofs.Common.{◌≡◌, drop}
use Rattle.std.specs.List.{list_all}
use Rattle.record_changes.specs.Awaits.{is_due}
use Rattle.record_changes.proofs.awaits.are_due.Given as goal

abbrev pub invariant-loop-name : goal.invariant-loop-name
invariant-loop-name l = record { rest : list_all (is_due l.database.records) l.names ≡ list_all (is_due l.database.records) (drop l.name-index l.names) }
