use Rattle.std.proofs.Common.{◌∙◌, inr, sym, subst}
use Rattle.host_core.proofs.Barriers.{answered_here, barrier_world, since_to_disk}
use Rattle.trigger_files.specs.Steps.{AreBeingWritten, AreWritten}
use Rattle.trigger_files.proofs.Moments.{being_start, none_written, ok_anyway, start_here, to_disk}
use Rattle.trigger_files.proofs.registering.write_to_disk.Goals as goal

pub returns-then-is_empty-clause-written : goal.returns-then-is_empty-clause-written
returns-then-is_empty-clause-written g c = λ h. none_written c.args.entries.now c.args.names.now _ (sym c.is_empty.ensures ∙ c.if-is_empty.true)

pub returns-then-is_empty-clause-any_moment : goal.returns-then-is_empty-clause-any_moment
returns-then-is_empty-clause-any_moment g c = start_here (AreBeingWritten c.args.entries.now c.args.names.now) _ (being_start c.args.entries.now c.args.names.now)

pub returns-then-is_empty-clause-on_disk : goal.returns-then-is_empty-clause-on_disk
returns-then-is_empty-clause-on_disk g c = answered_here _

pub returns-clause-written : goal.returns-clause-written
returns-clause-written g c = λ h.
    ok_anyway _ c.barrier.result
    (subst (AreWritten c.args.entries.now c.args.names.now (g.H.Host.state c.args.host.now).world) (sym (barrier_world c.barrier.result _ _ c.barrier.ensures.does h)) (c.in_ok-write_each.ensures.written (c.barrier.ensures.silent.honest h)))

pub returns-clause-any_moment : goal.returns-clause-any_moment
returns-clause-any_moment g c = since_to_disk _ c.barrier.result _ _ _ (λ x quiet w none is. is) c.write_each.ensures.any_moment c.barrier.ensures.does

pub returns-clause-on_disk : goal.returns-clause-on_disk
returns-clause-on_disk g c = to_disk c.barrier.result _ _ _ c.barrier.ensures.does
