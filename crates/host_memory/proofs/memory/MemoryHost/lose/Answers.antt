use Rattle.std.proofs.Common.{sym, ap, subst, ◌∙◌}
use Rattle.host_core.specs.Host.{State}
use Rattle.host_core.specs.World.{World}
use Rattle.host_memory.specs.Histories.{IsLeft}
use Rattle.host_memory.specs.Memory.{memory_state}
use Rattle.host_memory.proofs.Lost.{loses_so}
use Rattle.host_memory.proofs.memory.MemoryHost.lose.Goals as goal

pub returns-in-Ok-clause-ok : goal.returns-in-Ok-clause-ok
returns-in-Ok-clause-ok c =
    let h = c.args.self.history in
    let lost = c.in-Ok.ensures in
    let left : IsLeft c.args.keep c.args.fill h (memory_state c.restart.result).world =
    subst (λ (w : World). IsLeft c.args.keep c.args.fill h w) (sym (ap (λ (t : State). t.world) c.restart.ensures.state)) lost.ok in
    record {
      left = left;
      loses = loses_so c.args.keep c.args.fill h (memory_state c.restart.result).world left;
      events = ap (λ (t : State). t.events) c.restart.ensures.state ∙ lost.events;
      disk = c.restart.ensures.disk ∙ lost.disk ∙ sym c.restart.ensures.state;
      planned = c.restart.ensures.planned;
      faults = c.restart.ensures.faults;
      denials = c.restart.ensures.denials;
    }
