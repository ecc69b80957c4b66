use Rattle.std.proofs.Common.{ℕ, ◌<◌}
use Rattle.std.specs.Prelude.{IsTrue}
use Rattle.dependency_check.specs.Deconfigured.{of_role}
use Rattle.dependency_check.proofs.roles.first_of_role.Given as goal

abbrev pub invariant-loop-number : goal.invariant-loop-number
invariant-loop-number l = (y : ℕ) → y < l.number → IsTrue (of_role l.role l.incoming l.packages y) → ⊥
