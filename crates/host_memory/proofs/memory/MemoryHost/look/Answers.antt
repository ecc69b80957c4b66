use Rattle.std.proofs.Common.{Err, refl, sym, ◌∙◌}
use Rattle.host_core.specs.Events.{Failed}
use Rattle.host_core.specs.declared.fault.HostFault.TheVariants.{Device}
use Rattle.host_memory.proofs.Recorded.{looks}
use Rattle.host_memory.proofs.Since.{goes_from}
use Rattle.host_memory.proofs.memory.MemoryHost.look.Goals as goal

pub returns-then-read_fails : goal.returns-then-read_fails
returns-then-read_fails c = looks c.args.self.now _ refl (Err Device) (
  sym c.read_fails.ensures ∙ c.if-read_fails.true,
  goes_from Failed c.args.self.now.history c.make_room_for_fault.new.self c.tell_fault.new.self c.in_ok-make_room_for_fault.ensures.same c.tell_fault.ensures,
  record { planned = refl; faults = c.behind_read-self.ensures; denials = refl },
)
