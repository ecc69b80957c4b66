use Rattle.std.proofs.Common.{◌≡◌, false, take}
use Rattle.std.specs.List.{list_any}
use Rattle.stat_overrides.specs.Overrides.{is_name}
use Rattle.stat_overrides.proofs.table.names_group.Given as goal

abbrev pub invariant-loop-entry : goal.invariant-loop-entry
invariant-loop-entry l = list_any (λ o. is_name o.group) (take l.entry-index l.entry-items) ≡ false
