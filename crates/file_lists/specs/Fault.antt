-- A fault of the host, as one of the lists.
use Rattle.std.specs.Prelude.{◌≡◌, Result, Ok, Err}
use Rattle.host_core.specs.Host.{State, HasFailed, NoFault, HasDeclined}
use Rattle.host_core.specs.declared.fault.HostFault.{HostFault}
use Rattle.host_core.specs.declared.fault.HostFault.TheVariants as host
use Rattle.file_lists.specs.declared.list_fault.ListFault.{ListFault}
use Rattle.file_lists.specs.declared.list_fault.ListFault.TheVariants.{Device, NoMemory, Declined, Closed}

abbrev pub fault_of : HostFault → ListFault
fault_of host.Device = Device
fault_of host.NoMemory = NoMemory
fault_of host.Declined = Declined

-- Device is told exactly where the device failed
abbrev pub CountsList : {T : Type 0} → State → State → Result T ListFault → Type 0
CountsList old new (Ok x) = NoFault old new
CountsList old new (Err Device) = HasFailed old new
CountsList old new (Err NoMemory) = NoFault old new
CountsList old new (Err Declined) = HasDeclined old new
CountsList old new (Err Closed) = NoFault old new
