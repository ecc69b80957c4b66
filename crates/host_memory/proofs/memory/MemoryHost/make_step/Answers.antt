use Rattle.std.proofs.lemmas.Result.{err_from_is_err_and}
use Rattle.std.proofs.Common.{Ok, Err, refl, sym, subst, ◌∙◌}
use Rattle.host_core.specs.Paths.{Path}
use Rattle.host_memory.specs.Histories.{Goes, Steps, Breaks}
use Rattle.host_memory.specs.declared.history.History.{History}
use Rattle.host_core.specs.declared.fault.HostFault.TheVariants.{Device, NoMemory, Declined}
use Rattle.host_core.specs.Events.{Denied}
use Rattle.host_core.specs.World.{place_of}
use Rattle.host_memory.specs.Doings.{part_left, step_of}
use Rattle.host_memory.proofs.Since.{goes_from}
use Rattle.host_memory.proofs.Recorded.{behind_kept, makes_step}
use Rattle.host_memory.proofs.memory.MemoryHost.make_step.Goals as goal

pub returns-in_ok-do_step-in-Made : goal.returns-in_ok-do_step-in-Made
returns-in_ok-do_step-in-Made c = makes_step (Ok tt) (step_of c.args.step) c.args.self.now _ (sym c.fate.ensures ∙ c.in-Made.is, subst (λ (h : History). Steps (step_of c.args.step) c.args.self.now.history h) (sym c.pass_step.ensures.history) c.in_ok-do_step-in-Made.ensures.ok.0, record { planned = c.pass_step.ensures.passed.planned; faults = c.pass_step.ensures.passed.faults; denials = c.pass_step.ensures.passed.denials }) c.pass_step.ensures.passed.planned

pub returns-in_ok-break_step-in-Failed : goal.returns-in_ok-break_step-in-Failed
returns-in_ok-break_step-in-Failed c =
    let done = c.in_ok-break_step-in-Failed.ensures in
    makes_step (Err Device) (step_of c.args.step) c.args.self.now _
    (c.in-Failed.effect, sym c.fate.ensures ∙ c.in-Failed.is, subst (λ (h : History). Breaks (part_left c.in-Failed.effect (step_of c.args.step)) c.args.self.now.history h) (sym c.pass_step-in-Failed.ensures.history) done.ok, behind_kept c.args.self.now c.break_step.new.self _ done.plans c.pass_step-in-Failed.ensures.passed) (c.pass_step-in-Failed.ensures.passed.planned ∙ done.plans.planned)

pub returns-in_ok-make_room_for_fault-in-Declined : goal.returns-in_ok-make_room_for_fault-in-Declined
returns-in_ok-make_room_for_fault-in-Declined c =
    let told = goes_from (Denied c.place_of.result) c.args.self.now.history c.make_room_for_fault.new.self c.tell_denial.new.self c.in_ok-make_room_for_fault-in-Declined.ensures.same c.tell_denial.ensures in
    let there : Goes (Denied (place_of (step_of c.args.step))) c.args.self.now.history c.tell_denial.new.self = subst (λ (p : Path). Goes (Denied p) c.args.self.now.history c.tell_denial.new.self) c.place_of.ensures told in
    makes_step (Err Declined) (step_of c.args.step) c.args.self.now _ (
      sym c.fate.ensures ∙ c.in-Declined.is,
      subst (λ (h : History). Goes (Denied (place_of (step_of c.args.step))) c.args.self.now.history h) (sym c.pass_step-in-Declined.ensures.history) there,
      record { planned = c.pass_step-in-Declined.ensures.passed.planned; faults = c.pass_step-in-Declined.ensures.passed.faults; denials = c.pass_step-in-Declined.ensures.passed.denials },
    ) c.pass_step-in-Declined.ensures.passed.planned

pub returns-in_err-make_room_for_fault-in-Declined : goal.returns-in_err-make_room_for_fault-in-Declined
returns-in_err-make_room_for_fault-in-Declined c =
    let back = c.from_residual-in_err-make_room_for_fault-in-Declined in
    let p = err_from_is_err_and back.result back.ensures.1 in
    rw (p.1, p.2) (makes_step {T = Unit {0}} (Err NoMemory) (step_of c.args.step) c.args.self.now _ record { same = c.in_err-make_room_for_fault-in-Declined.ensures.same; plans = record { planned = refl; faults = refl; denials = refl } } refl)
