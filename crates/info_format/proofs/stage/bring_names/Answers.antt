use Rattle.std.proofs.Common.{inl, inr, IfErr, sym, subst}
use Rattle.std.specs.Prelude.{OnOk}
use Rattle.host_core.specs.World.{World, IsDirectory}
use Rattle.administration.specs.Places.{info_path}
use Rattle.info_format.specs.Stage.{AreDamaged, AreDone}
use Rattle.info_format.proofs.Stages.{moments_behind, moments_read, not_there, there}
use Rattle.info_format.proofs.stage.bring_names.Goals as goal

pub returns-in_err-is_directory-clause-any_moment : goal.returns-in_err-is_directory-clause-any_moment
returns-in_err-is_directory-clause-any_moment g c = moments_read _ _ c.is_directory.ensures.looks.reads

pub bring_inside-requires-clause-there : goal.bring_inside-requires-clause-there
bring_inside-requires-clause-there g c = λ h.
    subst (λ (w : World). IsDirectory (w info_path)) (sym c.is_directory.ensures.looks.reads.world) (there (g.H.Host.state c.args.host.now).world _ c.in_ok-is_directory.field-0 c.in_ok-info.ensures c.if-branch.true (c.in_ok-is_directory.ensures.looks.found h))

pub returns-then-branch-clause-done : goal.returns-then-branch-clause-done
returns-then-branch-clause-done g c = λ h. subst (λ (w : World). OnOk c.bring_inside.result (AreDone w (g.H.Host.state c.bring_inside.new.host).world)) c.is_directory.ensures.looks.reads.world (c.bring_inside.ensures.done h)

pub returns-then-branch-clause-fault : goal.returns-then-branch-clause-fault
returns-then-branch-clause-fault g c = λ h. subst (λ (w : World). IfErr c.bring_inside.result (AreDamaged w)) c.is_directory.ensures.looks.reads.world (c.bring_inside.ensures.fault h)

pub returns-then-branch-clause-any_moment : goal.returns-then-branch-clause-any_moment
returns-then-branch-clause-any_moment g c = moments_behind _ _ _ c.is_directory.ensures.looks.reads c.bring_inside.ensures.any_moment

pub returns-clause-done : goal.returns-clause-done
returns-clause-done g c = λ h. inl (c.is_directory.ensures.looks.reads.world, inr (inl (not_there (g.H.Host.state c.args.host.now).world _ c.in_ok-is_directory.field-0 c.in_ok-info.ensures c.if-branch.false (c.in_ok-is_directory.ensures.looks.found h))))

pub returns-clause-any_moment : goal.returns-clause-any_moment
returns-clause-any_moment g c = moments_read _ _ c.is_directory.ensures.looks.reads
