-- The end of a command: what was noted is merged into the status file.
use Rattle.std.specs.Prelude.{false}
use Rattle.host_core.specs.declared.fault.HostFault.{HostFault}
use Rattle.host_core.specs.declared.fault.HostFault.TheVariants as host
use Rattle.status_db.specs.declared.record_fault.RecordFault.{RecordFault}
use Rattle.status_db.specs.declared.record_fault.RecordFault.TheVariants as records
use Rattle.unit_reports.specs.Held.{Held}

-- what is held of the same administration once all notes are merged
abbrev pub merged : Held → Held
merged h = record { records = record { records = h.records.records; notes = 0; closed = false }; lists = h.lists; ways = h.ways }

-- a fault of the records, as one of the host; those of an open session aren't closed
abbrev pub host_fault : RecordFault → HostFault
host_fault records.Device = host.Device
host_fault records.NoMemory = host.NoMemory
host_fault records.Declined = host.Declined
host_fault records.Closed = host.NoMemory
