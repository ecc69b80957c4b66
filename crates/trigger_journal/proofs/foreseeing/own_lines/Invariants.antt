use Rattle.std.proofs.Common.{◌≡◌, take}
use Rattle.trigger_journal.specs.Ahead.{own_lines}
use Rattle.trigger_journal.proofs.foreseeing.own_lines.Given as goal

abbrev pub invariant-loop-name : goal.invariant-loop-name
invariant-loop-name l = l.lines.items ≡ own_lines (take l.name-index l.names)
