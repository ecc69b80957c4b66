-- What one look tells, and what a device that fails leaves of that.
use Rattle.std.specs.Prelude.{◌≡◌, ◌+◌, ℕ, Bool, List, Option, Result, Ok, Err, cond}
use Rattle.host_core.specs.Host.{Needs, State, faults}
use Rattle.host_core.specs.Paths.{Path}
use Rattle.host_core.specs.declared.node.Node.{Node}
use Rattle.verification.specs.Shipped.{compared_by}
use Rattle.verification.specs.Verified.{told_by}
use Rattle.verification.specs.declared.difference.Difference.{Difference}

-- the difference was told, or the device failed, and that was told
pub record IsTold (place : Path) (known : Option (List ℕ)) (old new : State) (difference : Option Difference) : Type 0 where
  pub failed : Bool
  pub count : faults new ≡ faults old + cond failed 1 0
  pub told : Needs new (λ w. difference ≡ told_by failed (w place) known)

-- the same beside what was shipped
pub record IsToldBeside (place : Path) (shipped : Node) (old new : State) (difference : Option Difference) : Type 0 where
  pub failed : Bool
  pub count : faults new ≡ faults old + cond failed 1 0
  pub told : Needs new (λ w. difference ≡ compared_by failed (w place) shipped)
