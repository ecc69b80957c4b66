use Rattle.std.proofs.Common.{◌≡◌, drop}
use Rattle.opening.specs.Architectures.{line_named}
use Rattle.opening.proofs.architectures.line_named.Given as goal

abbrev pub invariant-loop-one : goal.invariant-loop-one
invariant-loop-one l = line_named l.name l.paragraphs ≡ line_named l.name (drop l.one-index l.paragraphs)
