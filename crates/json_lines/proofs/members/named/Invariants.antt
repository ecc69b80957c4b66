use Rattle.std.proofs.Common.{◌≡◌, ◌++◌, drop}
use Rattle.json_lines.specs.Members.{named}
use Rattle.json_lines.proofs.members.named.Given as goal

abbrev pub invariant-loop-value : goal.invariant-loop-value
invariant-loop-value l = l.members ++ named l.left (drop l.value-index l.values) ≡ named l.names l.values
