use Rattle.std.proofs.Common.{ℕ, take}
use Rattle.std.specs.List.{Contains}
use Rattle.relation_index.specs.Packages.{needs}
use Rattle.dependency_check.specs.Deconfigured.{LosesBy}
use Rattle.dependency_check.proofs.dependents.removed_for.Given as goal

abbrev pub invariant-loop-number : goal.invariant-loop-number
invariant-loop-number l = (y : ℕ) → Contains (take l.number-index l.conflicting) y → LosesBy l.packages l.incoming (needs l.of) y → ⊥
