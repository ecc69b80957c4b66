use Rattle.std.proofs.Common.{inl, IfErr, sym, subst}
use Rattle.std.specs.Prelude.{OnOk}
use Rattle.host_core.specs.World.{World, IsDirectory}
use Rattle.administration.specs.Places.{info_path}
use Rattle.info_format.specs.Stage.{AreDamaged, AreDone}
use Rattle.info_format.proofs.Stages.{moments_behind, moments_read, plain_done}
use Rattle.info_format.proofs.stage.bring_inside.Goals as goal

pub returns-in_err-has_named-clause-any_moment : goal.returns-in_err-has_named-clause-any_moment
returns-in_err-has_named-clause-any_moment g c = moments_read _ _ c.has_named.ensures.looks.reads

pub convert_recorded-requires : goal.convert_recorded-requires
convert_recorded-requires g c = record { info = λ h. subst (λ (w : World). IsDirectory (w info_path)) (sym c.has_named.ensures.looks.reads.world) (c.requires.there (c.has_named.ensures.looks.silent.honest h)) }

pub returns-then-branch-clause-done : goal.returns-then-branch-clause-done
returns-then-branch-clause-done g c = λ h. subst (λ (w : World). OnOk c.convert_recorded.result (AreDone w (g.H.Host.state c.convert_recorded.new.host).world)) c.has_named.ensures.looks.reads.world (c.convert_recorded.ensures.done h)

pub returns-then-branch-clause-fault : goal.returns-then-branch-clause-fault
returns-then-branch-clause-fault g c = λ h. subst (λ (w : World). IfErr c.convert_recorded.result (AreDamaged w)) c.has_named.ensures.looks.reads.world (c.convert_recorded.ensures.fault h)

pub returns-then-branch-clause-any_moment : goal.returns-then-branch-clause-any_moment
returns-then-branch-clause-any_moment g c = moments_behind _ _ _ c.has_named.ensures.looks.reads c.convert_recorded.ensures.any_moment

pub returns-clause-done : goal.returns-clause-done
returns-clause-done g c = λ h. inl (c.has_named.ensures.looks.reads.world, inl (plain_done (g.H.Host.state c.args.host.now).world (c.in_ok-has_named.ensures.looks.found h c.if-branch.false)))

pub returns-clause-any_moment : goal.returns-clause-any_moment
returns-clause-any_moment g c = moments_read _ _ c.has_named.ensures.looks.reads
