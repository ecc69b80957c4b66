use Rattle.std.proofs.Common.{inl, inr, IfErr, IfOk, sym, subst}
use Rattle.host_core.specs.World.{World, IsDirectory}
use Rattle.host_core.proofs.Moments.{reads_then}
use Rattle.host_overlay.specs.declared.seen_names.SeenNames.{SeenNames}
use Rattle.administration.specs.Places.{info_path}
use Rattle.status_db.specs.Held.{HasRecords}
use Rattle.info_format.specs.Seeing.{IsSeenThrough}
use Rattle.info_format.specs.Stage.{AreDamaged}
use Rattle.info_format.proofs.Showings.{none_idle}
use Rattle.info_format.proofs.Stages.{plain_done}
use Rattle.info_format.proofs.shown.see_inside.Goals as goal

pub see_recorded-requires-clause-there : goal.see_recorded-requires-clause-there
see_recorded-requires-clause-there g c = λ h. subst (λ (w : World). IsDirectory (w info_path)) (sym c.has_named.ensures.looks.reads.world) (c.requires.there (c.has_named.ensures.looks.silent.honest h))

pub see_recorded-requires-clause-records : goal.see_recorded-requires-clause-records
see_recorded-requires-clause-records g c = λ h. subst (λ (w : World). HasRecords w c.args.database.now.records) (sym c.has_named.ensures.looks.reads.world) (c.requires.records (c.has_named.ensures.looks.silent.honest h))

pub returns-then-branch-clause-through : goal.returns-then-branch-clause-through
returns-then-branch-clause-through g c = λ h. subst (λ (w : World). IfOk c.see_recorded.result (λ (k : SeenNames). IsSeenThrough w k)) c.has_named.ensures.looks.reads.world (c.see_recorded.ensures.through h)

pub returns-then-branch-clause-fault : goal.returns-then-branch-clause-fault
returns-then-branch-clause-fault g c = λ h. subst (λ (w : World). IfErr c.see_recorded.result (AreDamaged w)) c.has_named.ensures.looks.reads.world (c.see_recorded.ensures.fault h)

pub returns-then-branch-clause-reads : goal.returns-then-branch-clause-reads
returns-then-branch-clause-reads g c = reads_then _ _ _ c.has_named.ensures.looks.reads c.see_recorded.ensures.reads

pub returns-clause-through : goal.returns-clause-through
returns-clause-through g c = λ h. none_idle c.none.result (g.H.Host.state c.args.host.now).world c.none.ensures (g.H.Host.tree c.args.host.now (c.has_named.ensures.looks.silent.honest h)) (inl (plain_done (g.H.Host.state c.args.host.now).world (c.in_ok-has_named.ensures.looks.found h c.if-branch.false)))
