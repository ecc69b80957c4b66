use Rattle.std.proofs.Common.{◌≡◌, ◌++◌, take}
use Rattle.removal_engine.specs.Names.{waiting_names}
use Rattle.removal_engine.proofs.names.push_waiting.Given as goal

abbrev pub invariant-loop-digest : goal.invariant-loop-digest
invariant-loop-digest l = l.names.items ≡ l.fn.names.items ++ waiting_names l.diversions.ways l.name (take l.digest-index l.pending)
