use Rattle.std.proofs.Common.{◌≡◌, Some, Option, sym, ap, ◌∙◌}
use Rattle.std.specs.Prelude.{option_map}
use Rattle.host_memory.specs.declared.done.DeviceStep.{DeviceStep}
use Rattle.host_memory.specs.Doings.{step_of, part_left}
use Rattle.host_memory.specs.Memory.{memory_state}
use Rattle.host_memory.proofs.Parts.{can_part, settles_part}
use Rattle.host_memory.proofs.memory.MemoryHost.break_step.Goals as goal

pub do_step-requires-clause-can : goal.do_step-requires-clause-can
do_step-requires-clause-can c =
    let is : part_left c.args.effect (step_of c.args.step) ≡ Some (step_of c.in-Some.part) = sym c.in_ok-part.ensures ∙ ap (λ (o : Option DeviceStep). option_map step_of o) c.in-Some.is in
    can_part (step_of c.in-Some.part) (memory_state c.args.self.now).world c.args.effect (step_of c.args.step) is c.requires.can

pub do_step-requires-clause-settled : goal.do_step-requires-clause-settled
do_step-requires-clause-settled c =
    let is : part_left c.args.effect (step_of c.args.step) ≡ Some (step_of c.in-Some.part) = sym c.in_ok-part.ensures ∙ ap (λ (o : Option DeviceStep). option_map step_of o) c.in-Some.is in
    settles_part (step_of c.in-Some.part) (memory_state c.args.self.now).events c.args.effect (step_of c.args.step) is c.requires.settled
