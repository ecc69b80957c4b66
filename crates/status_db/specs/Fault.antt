-- A fault of the host, as one of the records.
use Rattle.std.specs.Prelude.{◌≡◌, Result, Ok, Err}
use Rattle.host_core.specs.Host.{State, HasFailed, NoFault, HasDeclined}
use Rattle.host_core.specs.declared.fault.HostFault.{HostFault}
use Rattle.host_core.specs.declared.fault.HostFault.TheVariants as host
use Rattle.status_db.specs.declared.record_fault.RecordFault.{RecordFault}
use Rattle.status_db.specs.declared.record_fault.RecordFault.TheVariants.{Device, NoMemory, Declined, Closed}

abbrev pub fault_of : HostFault → RecordFault
fault_of host.Device = Device
fault_of host.NoMemory = NoMemory
fault_of host.Declined = Declined

-- Device is told exactly where the device failed
abbrev pub CountsRecord : {T : Type 0} → State → State → Result T RecordFault → Type 0
CountsRecord old new (Ok x) = NoFault old new
CountsRecord old new (Err Device) = HasFailed old new
CountsRecord old new (Err NoMemory) = NoFault old new
CountsRecord old new (Err Declined) = HasDeclined old new
CountsRecord old new (Err Closed) = NoFault old new
