-- What tells that notes are left.
use Rattle.std.specs.Prelude.{ℕ, List, ◌++◌, codes}
use Rattle.host_core.specs.declared.fault.HostFault.{HostFault}
use Rattle.host_core.specs.declared.fault.HostFault.TheVariants.{Device, NoMemory, Declined}

abbrev pub fault_word : HostFault → List ℕ
fault_word Device = codes "device"
fault_word NoMemory = codes "memory"
fault_word Declined = codes "declined"

-- the directory of the notes, and what broke off their merging
abbrev pub notes_line : HostFault → List ℕ
notes_line fault = codes "notes left: /var/lib/dpkg/updates: " ++ (fault_word fault ++ codes "\n")
