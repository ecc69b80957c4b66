use Rattle.std.proofs.Common.{◌≡◌, take}
use Rattle.trigger_journal.specs.Ahead.{missing}
use Rattle.trigger_journal.proofs.foreseeing.missing.Given as goal

abbrev pub invariant-loop-name : goal.invariant-loop-name
invariant-loop-name l = l.left.items ≡ missing l.requests (take l.name-index l.names)
