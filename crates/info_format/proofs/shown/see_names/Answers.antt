use Rattle.std.proofs.Common.{inl, inr, IfErr, IfOk, sym, subst}
use Rattle.host_core.specs.World.{World, IsDirectory}
use Rattle.host_core.proofs.Moments.{reads_then}
use Rattle.host_overlay.specs.declared.seen_names.SeenNames.{SeenNames}
use Rattle.administration.specs.Places.{info_path}
use Rattle.status_db.specs.Held.{HasRecords}
use Rattle.info_format.specs.Seeing.{IsSeenThrough}
use Rattle.info_format.specs.Stage.{AreDamaged}
use Rattle.info_format.proofs.Showings.{none_idle}
use Rattle.info_format.proofs.Stages.{not_there, there}
use Rattle.info_format.proofs.shown.see_names.Goals as goal

pub see_inside-requires-clause-there : goal.see_inside-requires-clause-there
see_inside-requires-clause-there g c = λ h. subst (λ (w : World). IsDirectory (w info_path)) (sym c.is_directory.ensures.looks.reads.world) (there (g.H.Host.state c.args.host.now).world _ c.in_ok-is_directory.field-0 c.in_ok-info.ensures c.if-branch.true (c.in_ok-is_directory.ensures.looks.found h))

pub see_inside-requires-clause-records : goal.see_inside-requires-clause-records
see_inside-requires-clause-records g c = λ h. subst (λ (w : World). HasRecords w c.args.database.now.records) (sym c.is_directory.ensures.looks.reads.world) (c.requires.records (c.is_directory.ensures.looks.silent.honest h))

pub returns-then-branch-clause-through : goal.returns-then-branch-clause-through
returns-then-branch-clause-through g c = λ h. subst (λ (w : World). IfOk c.see_inside.result (λ (k : SeenNames). IsSeenThrough w k)) c.is_directory.ensures.looks.reads.world (c.see_inside.ensures.through h)

pub returns-then-branch-clause-fault : goal.returns-then-branch-clause-fault
returns-then-branch-clause-fault g c = λ h. subst (λ (w : World). IfErr c.see_inside.result (AreDamaged w)) c.is_directory.ensures.looks.reads.world (c.see_inside.ensures.fault h)

pub returns-then-branch-clause-reads : goal.returns-then-branch-clause-reads
returns-then-branch-clause-reads g c = reads_then _ _ _ c.is_directory.ensures.looks.reads c.see_inside.ensures.reads

pub returns-clause-through : goal.returns-clause-through
returns-clause-through g c = λ h. none_idle c.none.result (g.H.Host.state c.args.host.now).world c.none.ensures (g.H.Host.tree c.args.host.now (c.is_directory.ensures.looks.silent.honest h)) (inr (inl (not_there (g.H.Host.state c.args.host.now).world _ c.in_ok-is_directory.field-0 c.in_ok-info.ensures c.if-branch.false (c.in_ok-is_directory.ensures.looks.found h))))
