use Rattle.std.proofs.Common.{◌≡◌, ◌++◌, false, drop, map}
use Rattle.name_patterns.specs.Marks.{begun}
use Rattle.name_patterns.proofs.marks.begun.Given as goal

abbrev pub invariant-loop-byte : goal.invariant-loop-byte
invariant-loop-byte l = l.marks.items ++ map (λ b. false) (drop l._byte-index l.text) ≡ begun l.text
