use Rattle.std.proofs.Common.{◌≡◌, filter, take}
use Rattle.trigger_files.specs.Places.{is_register}
use Rattle.trigger_files.proofs.due.registers.Given as goal

abbrev pub invariant-loop-name : goal.invariant-loop-name
invariant-loop-name l = l.kept.items ≡ filter is_register (take l.name-index l.names)
