use Rattle.std.proofs.Common.{subst}
use Rattle.std.specs.BTreeMap.{get_by_text}
use Rattle.host_core.specs.World.{Move}
use Rattle.host_memory.specs.Able.{CanDo}
use Rattle.host_memory.specs.Doings.{step_of}
use Rattle.host_memory.specs.declared.done.DeviceStep.{DeviceStep}
use Rattle.host_memory.proofs.step.perform.Goals as goal

pub move_node-requires-clause-over : goal.move_node-requires-clause-over
move_node-requires-clause-over c =
    let w = get_by_text c.args.files.now.nodes in
    let can : CanDo (Move c.in-Move.from c.in-Move.to) w = subst (λ (s : DeviceStep). CanDo (step_of s) w) c.in-Move.is c.requires in
    can.1
