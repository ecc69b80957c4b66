use Rattle.std.proofs.Common.{◌≡◌, ◌∙◌, IsTrue, sym, subst}
use Rattle.host_core.specs.World.{World}
use Rattle.file_lists.proofs.Looked.{fault_told}
use Rattle.info_format.specs.Converting.{IsConverted, IsNamesDamage}
use Rattle.info_format.proofs.Showings.{none_shows}
use Rattle.info_format.proofs.shown.see_unknown.Goals as goal

pub returns-in_err-pass_unknown-clause-fault : goal.returns-in_err-pass_unknown-clause-fault
returns-in_err-pass_unknown-clause-fault g c = λ arches all h. fault_told (IsNamesDamage arches (g.H.Host.state c.args.host.now).world) c.in_err-pass_unknown.field-0.0 c.from_residual.result c.from_residual.ensures.1 (c.in_err-pass_unknown.ensures.fault arches all h)

pub returns-clause-shows : goal.returns-clause-shows
returns-clause-shows g c = λ arches all h.
    none_shows (IsConverted arches) c.none.result (g.H.Host.state c.args.host.now).world c.none.ensures (g.H.Host.tree c.args.host.now (c.pass_unknown.ensures.silent.honest h)) (subst (IsConverted arches (g.H.Host.state c.args.host.now).world) c.pass_unknown.ensures.reads.world (c.in_ok-pass_unknown.ensures.converted arches all h))
