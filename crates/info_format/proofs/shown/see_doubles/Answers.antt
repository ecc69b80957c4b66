use Rattle.std.proofs.Common.{subst}
use Rattle.host_core.specs.World.{World}
use Rattle.host_core.proofs.Moments.{reads_then}
use Rattle.host_overlay.specs.declared.seen_names.SeenNames.{SeenNames}
use Rattle.file_lists.proofs.Looked.{fault_told, host_told}
use Rattle.info_format.specs.Converting.{IsConverted, IsNamesDamage}
use Rattle.info_format.specs.Seeing.{Shows}
use Rattle.info_format.specs.Steps.{AreTaken}
use Rattle.info_format.proofs.Conversion.{cleared, other_beside}
use Rattle.info_format.proofs.Showings.{shows_by}
use Rattle.info_format.proofs.shown.see_doubles.Goals as goal

pub returns-in_err-check_all-clause-fault : goal.returns-in_err-check_all-clause-fault
returns-in_err-check_all-clause-fault g c = λ arches all h.
    let old = (g.H.Host.state c.args.host.now).world in
    let h0 = c.check_all.ensures.silent.honest h in
    fault_told (IsNamesDamage arches old) c.in_err-check_all.field-0.0 c.from_residual.result c.from_residual.ensures.1
    (other_beside arches c.args.pairs.now old (all h0) c.in_err-check_all.field-0.0 (c.requires.plain h0) (c.in_err-check_all.ensures.fault h))

pub returns-in_err-see_cleared-clause-fault : goal.returns-in_err-see_cleared-clause-fault
returns-in_err-see_cleared-clause-fault g c = λ arches all h. host_told (IsNamesDamage arches (g.H.Host.state c.args.host.now).world) _ c.from_residual-in_err-see_cleared.result c.from_residual-in_err-see_cleared.ensures.1 tt tt tt

pub returns-in_err-see_cleared-clause-reads : goal.returns-in_err-see_cleared-clause-reads
returns-in_err-see_cleared-clause-reads g c = reads_then _ _ _ c.check_all.ensures.reads c.see_cleared.ensures.reads

pub returns-clause-shows : goal.returns-clause-shows
returns-clause-shows g c = λ arches all h.
    let old = (g.H.Host.state c.args.host.now).world in
    let h1 = c.see_cleared.ensures.silent.honest h in
    let h0 = c.check_all.ensures.silent.honest h1 in
    shows_by (AreTaken c.args.pairs.now) (IsConverted arches) old c.in_ok-see_cleared.field-0 (λ v is. cleared arches c.args.pairs.now old (all h0) v (c.requires.plain h0) (c.in_ok-check_all.ensures.fit h1) is)
    (subst (λ (u : World). Shows (AreTaken c.args.pairs.now) u c.in_ok-see_cleared.field-0) c.check_all.ensures.reads.world (c.in_ok-see_cleared.ensures.shows h))

pub returns-clause-reads : goal.returns-clause-reads
returns-clause-reads g c = reads_then _ _ _ c.check_all.ensures.reads c.see_cleared.ensures.reads
