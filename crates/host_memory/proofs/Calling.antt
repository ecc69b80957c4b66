-- What comes of a script call, as a host tells it.
use Rattle.std.proofs.Common.{Bool, inl, inr, Result, Ok, Err}
use Rattle.host_core.specs.Paths.{Path}
use Rattle.host_core.specs.Host.{Runs, Counts}
use Rattle.host_core.proofs.Counted.{counts_runs}
use Rattle.host_core.specs.declared.call.Call.{Call}
use Rattle.host_core.specs.declared.call.Outcome.{Outcome}
use Rattle.host_core.specs.declared.fault.HostFault.{HostFault}
use Rattle.host_core.specs.declared.fault.HostFault.TheVariants.{Device, NoMemory, Declined}
use Rattle.host_memory.specs.declared.memory.MemoryHost.{MemoryHost}
use Rattle.host_memory.specs.Changes.{change_of}
use Rattle.host_memory.specs.Endings.{next_change}
use Rattle.host_memory.specs.Memory.{memory_state, planned_of, CallsAsPlanned}
use Rattle.host_memory.proofs.Carrying.{carries_avoids}
use Rattle.host_memory.proofs.Recorded.{same}

module _ (kept : Path → Bool) (call : Call) (old new : MemoryHost) where
  pub runs_so : (result : Result Outcome HostFault) → CallsAsPlanned kept call old new result → Runs kept call (memory_state old) (memory_state new) result
  runs_so (Ok outcome) ended = (ended.change, λ h. carries_avoids kept (memory_state old).world (change_of (next_change (planned_of old))) ended.change ended.carries, ended.goes.happened)
  runs_so (Err Device) (inl stopped) = inl stopped.goes.happened
  runs_so (Err Device) (inr cut) = inr (cut.change, λ h. carries_avoids kept (memory_state old).world (change_of (next_change (planned_of old))) cut.change cut.carries, cut.happened)
  runs_so (Err NoMemory) is = same old new is
  runs_so (Err Declined) never = absurd never

  pub counts_so : (result : Result Outcome HostFault) → CallsAsPlanned kept call old new result → Counts (memory_state old) (memory_state new) result
  counts_so result is = counts_runs kept call result (memory_state old) (memory_state new) (runs_so result is)
