-- A fault of the host, as one of the diversions.
use Rattle.std.specs.Prelude.{◌≡◌, Result, Ok, Err}
use Rattle.host_core.specs.Host.{State, HasFailed, NoFault, HasDeclined}
use Rattle.host_core.specs.declared.fault.HostFault.{HostFault}
use Rattle.host_core.specs.declared.fault.HostFault.TheVariants as host
use Rattle.diversions.specs.declared.fault.DiversionFault.{DiversionFault}
use Rattle.diversions.specs.declared.fault.DiversionFault.TheVariants.{Device, NoMemory, Declined, Closed}

abbrev pub fault_of : HostFault → DiversionFault
fault_of host.Device = Device
fault_of host.NoMemory = NoMemory
fault_of host.Declined = Declined

-- Device is told exactly where the device failed
abbrev pub CountsDiversion : {T : Type 0} → State → State → Result T DiversionFault → Type 0
CountsDiversion old new (Ok x) = NoFault old new
CountsDiversion old new (Err Device) = HasFailed old new
CountsDiversion old new (Err NoMemory) = NoFault old new
CountsDiversion old new (Err Declined) = HasDeclined old new
CountsDiversion old new (Err Closed) = NoFault old new
