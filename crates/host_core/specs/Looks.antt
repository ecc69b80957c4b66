-- One word for a call that only looks.
use Rattle.std.specs.Prelude.{Result}
use Rattle.host_core.specs.World.{World}
use Rattle.host_core.specs.Host.{State, Tells, Reads, Silent, Counts}
use Rattle.host_core.specs.declared.fault.HostFault.{HostFault}

-- It was only looked at, no script was called, the answer is this of the world, and a fault is told where the device failed.
pub record Looks {T : Type 0} (result : Result T HostFault) (P : T → World → Type 0) (old new : State) : Type 0 where
  pub found : Tells result P old new
  pub reads : Reads old new
  pub silent : Silent old new
  pub counts : Counts old new result
