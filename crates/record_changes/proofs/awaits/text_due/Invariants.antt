use Rattle.std.proofs.Common.{◌≡◌, [], filter, take}
use Rattle.record_changes.specs.Activated.{with_names}
use Rattle.record_changes.specs.Awaits.{is_due}
use Rattle.record_changes.proofs.awaits.text_due.Given as goal

abbrev pub invariant-loop-name : goal.invariant-loop-name
invariant-loop-name l = l.text.items ≡ with_names [] (filter (is_due l.database.records) (take l.name-index l.names))
