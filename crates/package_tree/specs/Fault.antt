-- A fault of the host, as one of a tree, and what the count of faults says of it.
use Rattle.std.specs.Prelude.{◌≡◌, Result, Ok, Err}
use Rattle.host_core.specs.Host.{State, faults, HasFailed, NoFault, HasDeclined}
use Rattle.host_core.specs.declared.fault.HostFault.{HostFault}
use Rattle.host_core.specs.declared.fault.HostFault.TheVariants as host
use Rattle.package_tree.specs.declared.fault.TreeFault.{TreeFault}
use Rattle.package_tree.specs.declared.fault.TreeFault.TheVariants.{Twice, NoRoom, NoControl, Control, FieldMissing, FieldBad, PathBad, Reserved, ConffileNotShipped, ConffileShipped, ConffileFlag, TooLarge, TooMany, Device, NoMemory, Declined}

abbrev pub fault_of : HostFault → TreeFault
fault_of host.Device = Device
fault_of host.NoMemory = NoMemory
fault_of host.Declined = Declined

-- Device is told exactly where the device failed: once, and then nothing was done
abbrev pub CountsTree : {T : Type 0} → State → State → Result T TreeFault → Type 0
CountsTree old new (Ok x) = NoFault old new
CountsTree old new (Err Twice) = NoFault old new
CountsTree old new (Err (NoRoom path)) = NoFault old new
CountsTree old new (Err NoControl) = NoFault old new
CountsTree old new (Err (Control fault)) = NoFault old new
CountsTree old new (Err (FieldMissing name)) = NoFault old new
CountsTree old new (Err (FieldBad name)) = NoFault old new
CountsTree old new (Err (PathBad path)) = NoFault old new
CountsTree old new (Err (Reserved path)) = NoFault old new
CountsTree old new (Err (ConffileNotShipped name)) = NoFault old new
CountsTree old new (Err (ConffileShipped path)) = NoFault old new
CountsTree old new (Err (ConffileFlag line)) = NoFault old new
CountsTree old new (Err (TooLarge path)) = NoFault old new
CountsTree old new (Err TooMany) = NoFault old new
CountsTree old new (Err Device) = HasFailed old new
CountsTree old new (Err NoMemory) = NoFault old new
CountsTree old new (Err Declined) = HasDeclined old new

-- no fault of the tree: the device failed, or memory was refused
abbrev pub IsHostFault : TreeFault → Type 0
IsHostFault Twice = ⊥
IsHostFault (NoRoom path) = ⊥
IsHostFault NoControl = ⊥
IsHostFault (Control fault) = ⊥
IsHostFault (FieldMissing name) = ⊥
IsHostFault (FieldBad name) = ⊥
IsHostFault (PathBad path) = ⊥
IsHostFault (Reserved path) = ⊥
IsHostFault (ConffileNotShipped name) = ⊥
IsHostFault (ConffileShipped path) = ⊥
IsHostFault (ConffileFlag line) = ⊥
IsHostFault (TooLarge path) = ⊥
IsHostFault TooMany = ⊥
IsHostFault Device = Unit {0}
IsHostFault NoMemory = Unit {0}
IsHostFault Declined = Unit {0}
