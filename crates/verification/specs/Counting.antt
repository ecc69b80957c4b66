-- How often the device failed, where a verification ends with a fault.
use Rattle.std.specs.Prelude.{◌<◌, Result, Ok, Err}
use Rattle.host_core.specs.Host.{State, NoFault, denials, faults}
use Rattle.host_core.specs.declared.fault.HostFault.{HostFault}
use Rattle.host_core.specs.declared.fault.HostFault.TheVariants as host
use Rattle.administration.specs.declared.fault.AdministrationFault.{AdministrationFault}
use Rattle.administration.specs.declared.fault.AdministrationFault.TheVariants.{Damaged, Device, NoMemory, Declined}

-- behind looks that failed and were told: Device and Declined are told only of what happened
abbrev pub CountsLooks : {T : Type 0} → State → State → Result T HostFault → Type 0
CountsLooks old new (Ok x) = Unit {0}
CountsLooks old new (Err host.Device) = faults old < faults new
CountsLooks old new (Err host.NoMemory) = Unit {0}
CountsLooks old new (Err host.Declined) = denials old < denials new

-- the same of the whole, where damage is found before the first look
abbrev pub CountsVerified : {T : Type 0} → State → State → Result T AdministrationFault → Type 0
CountsVerified old new (Ok x) = Unit {0}
CountsVerified old new (Err Device) = faults old < faults new
CountsVerified old new (Err NoMemory) = Unit {0}
CountsVerified old new (Err Declined) = denials old < denials new
CountsVerified old new (Err (Damaged file line)) = NoFault old new
