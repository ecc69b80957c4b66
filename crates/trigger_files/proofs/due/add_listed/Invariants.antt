use Rattle.std.proofs.Common.{◌≡◌, ◌++◌, take}
use Rattle.trigger_files.proofs.due.add_listed.Given as goal

abbrev pub invariant-loop-name : goal.invariant-loop-name
invariant-loop-name l = l.names.items ≡ l.fn.names.items ++ take l.name-index l.listed
