use Rattle.std.proofs.Common.{rules, sym, subst}
use Rattle.host_core.specs.World.{World, IsDirectory}
use Rattle.trigger_journal.specs.Places.{triggers_directory}
use Rattle.trigger_files.specs.Registered.{IsRegistering}
use Rattle.trigger_files.specs.Steps.{AreOpen, AreRegisters}
use Rattle.trigger_files.proofs.Moments.{answered_from, only_looked, registered_by, registering_from, registering_here}
use Rattle.trigger_files.proofs.Planned.{plan_free}
use Rattle.trigger_files.proofs.registering.register.Goals as goal

pub returns-in_err-plan-clause-any_moment : goal.returns-in_err-plan-clause-any_moment
returns-in_err-plan-clause-any_moment g c = only_looked (IsRegistering c.args.records.now) _ _ (registering_here c.args.records.now) c.read_plan.ensures.looks.reads

pub write_to_disk-requires-clause-registers : goal.write_to_disk-requires-clause-registers
write_to_disk-requires-clause-registers g c = subst AreRegisters (sym c.as_slice-2.ensures.value) c.in_ok-plan.ensures.registers

pub write_to_disk-requires-clause-there : goal.write_to_disk-requires-clause-there
write_to_disk-requires-clause-there g c = λ h.
    let reads = c.read_plan.ensures.looks.reads in
    subst (λ (w : World). IsDirectory (w triggers_directory)) (sym reads.world) (c.requires.there (reads.honest h))

pub write_to_disk-requires-clause-free : goal.write_to_disk-requires-clause-free
write_to_disk-requires-clause-free g c = λ h.
    let reads = c.read_plan.ensures.looks.reads in
    let old = (g.H.Host.state c.args.host.now).world in
    subst (λ (w : World). AreOpen w c.as_slice-2.result.now) (sym reads.world) (subst (AreOpen old) (sym c.as_slice-2.ensures.value)
    (plan_free c.args.records.now c.in_ok-plan.plan old (c.in_ok-plan.ensures.looks.found h) (c.requires.there (reads.honest h))))

pub returns-in_err-write_to_disk-clause-any_moment : goal.returns-in_err-write_to_disk-clause-any_moment
returns-in_err-write_to_disk-clause-any_moment g c =
    registering_from c.args.records.now c.in_ok-plan.plan _ _ _ _ _ c.read_plan.ensures.looks.reads c.requires.there (λ h. c.in_ok-plan.ensures.looks.found h) c.as_slice.ensures.value c.as_slice-2.ensures.value
    c.write_to_disk.ensures.silent.honest c.write_to_disk.ensures.any_moment

pub returns-clause-registered : goal.returns-clause-registered
returns-clause-registered g c = λ h.
    registered_by c.args.records.now c.in_ok-plan.plan (g.H.Host.state c.args.host.now) (g.H.Host.state c.read_plan.new.host) (g.H.Host.state c.write_to_disk.new.host) c.as_slice.result.now c.as_slice-2.result.now
    c.read_plan.ensures.looks.reads c.requires.there (λ honest. c.in_ok-plan.ensures.looks.found honest) c.as_slice.ensures.value c.as_slice-2.ensures.value
    _ (c.write_to_disk.ensures.silent.honest h) (c.in_ok-write_to_disk.ensures.written h) (search rules)

pub returns-clause-any_moment : goal.returns-clause-any_moment
returns-clause-any_moment g c =
    registering_from c.args.records.now c.in_ok-plan.plan _ _ _ _ _ c.read_plan.ensures.looks.reads c.requires.there (λ h. c.in_ok-plan.ensures.looks.found h) c.as_slice.ensures.value c.as_slice-2.ensures.value
    c.write_to_disk.ensures.silent.honest c.write_to_disk.ensures.any_moment

pub returns-clause-on_disk : goal.returns-clause-on_disk
returns-clause-on_disk g c = answered_from _ _ _ c.read_plan.ensures.looks.reads c.in_ok-write_to_disk.ensures.on_disk
