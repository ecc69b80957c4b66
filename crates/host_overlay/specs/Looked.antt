-- What a host has done that was only looked at.
use Rattle.std.specs.Prelude.{◌-◌, ◌++◌, List, replicate}
use Rattle.host_core.specs.Events.{Event, Failed}
use Rattle.host_core.specs.Host.{State, faults}

-- what it had done before, and the failures since
abbrev pub looked_at : State → State → List Event
looked_at begun now = begun.events ++ replicate (faults now - faults begun) Failed
