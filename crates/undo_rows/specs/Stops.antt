-- What holds at each stop, of all that the host has done until then and of the world.
use Rattle.std.specs.Prelude.{List, ◌++◌}
use Rattle.host_core.specs.World.{World}
use Rattle.host_core.specs.Events.{Event}
use Rattle.host_core.specs.Host.{State, Since}

-- at each moment Q holds of all events of the host so far, and of the world
abbrev pub AtEachStop : (List Event → World → Type 0) → State → State → Type 0
AtEachStop Q old new = Since (λ so_far. Q (old.events ++ so_far)) old new
