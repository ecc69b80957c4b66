use Rattle.std.proofs.Common.{ap, inl, inr, sym, subst, ◌∙◌}
use Rattle.held_administration.specs.Order.{IsInOrder}
use Rattle.host_core.specs.World.{World}
use Rattle.unit_reports.specs.Held.{held_by}
use Rattle.unit_reports.specs.declared.report.Reply.TheVariants.{Broken}
use Rattle.unit_reports.proofs.Counting.{counts_from, fault_within}
use Rattle.dpkg_session.proofs.Growth.{answered_from, looked_overridden, overridden_called, overridden_moments, overridden_unit}
use Rattle.dpkg_session.proofs.overriding.unit_of_overridden.Goals as goal

pub unit_by-requires-clause-order : goal.unit_by-requires-clause-order
unit_by-requires-clause-order g c = λ h.
    let looked = c.read_overrides.ensures.looks in
    subst (λ (w : World). IsInOrder c.args.administration.now.database c.args.administration.now.lists.lists w) (sym looked.reads.world) (c.requires.order (looked.reads.honest h))

pub returns-in-Ok-clause-unit : goal.returns-in-Ok-clause-unit
returns-in-Ok-clause-unit g c =
    let looked = c.in-Ok.ensures.looks in
    let s = g.H.Host.state c.args.host.now in
    let m = g.H.Host.state c.read_overrides.new.host in
    let t = g.H.Host.state c.unit_by.new.host in
    elim c.unit_by.ensures.unit [
      | inl broken ↦ inl broken
      | inr is ↦ inr (overridden_unit s m looked.reads looked.silent c.args.allowed c.args.incoming (held_by c.args.administration.now c.args.diversions.now) c.in-Ok.read looked.found
          c.unit_by.result t c.unit_by.ensures.any_moment.honest (held_by c.unit_by.new.administration c.unit_by.new.diversions) is)
    ]

pub returns-in-Ok-clause-told : goal.returns-in-Ok-clause-told
returns-in-Ok-clause-told g c =
    let looked = c.in-Ok.ensures.looks in
    let s = g.H.Host.state c.args.host.now in
    let m = g.H.Host.state c.read_overrides.new.host in
    let t = g.H.Host.state c.unit_by.new.host in
    overridden_called s m looked.reads looked.silent c.args.allowed c.args.incoming (held_by c.args.administration.now c.args.diversions.now) c.in-Ok.read looked.found c.unit_by.result t c.unit_by.ensures.any_moment.honest c.unit_by.ensures.told

pub returns-in-Ok-clause-any_moment : goal.returns-in-Ok-clause-any_moment
returns-in-Ok-clause-any_moment g c =
    let looked = c.in-Ok.ensures.looks in
    let s = g.H.Host.state c.args.host.now in
    let m = g.H.Host.state c.read_overrides.new.host in
    let t = g.H.Host.state c.unit_by.new.host in
    overridden_moments s m looked.reads looked.silent c.args.allowed c.args.incoming (held_by c.args.administration.now c.args.diversions.now) c.in-Ok.read looked.found c.unit_by.result t c.unit_by.ensures.any_moment.honest looked.counts c.unit_by.ensures.any_moment

pub returns-in-Ok-clause-answered : goal.returns-in-Ok-clause-answered
returns-in-Ok-clause-answered g c =
    elim c.unit_by.ensures.answered [
      | inl broken ↦ inl broken
      | inr is ↦ inr (answered_from (g.H.Host.state c.args.host.now) (g.H.Host.state c.read_overrides.new.host) (g.H.Host.state c.unit_by.new.host) c.read_overrides.ensures.looks.reads is)
    ]

pub returns-in-Ok-clause-counts : goal.returns-in-Ok-clause-counts
returns-in-Ok-clause-counts g c =
    counts_from c.unit_by.result.reply (g.H.Host.state c.args.host.now) (g.H.Host.state c.read_overrides.new.host) (g.H.Host.state c.unit_by.new.host) c.in-Ok.ensures.looks.counts c.unit_by.ensures.counts

pub returns-in-Err-clause-told : goal.returns-in-Err-clause-told
returns-in-Err-clause-told g c = inl (record { silent = c.read_overrides.ensures.looks.silent; told = c.broken.ensures.told ∙ c.new.ensures.items })

pub returns-in-Err-clause-any_moment : goal.returns-in-Err-clause-any_moment
returns-in-Err-clause-any_moment g c =
    looked_overridden c.args.allowed c.args.incoming (held_by c.args.administration.now c.args.diversions.now) (g.H.Host.state c.args.host.now) (g.H.Host.state c.read_overrides.new.host) c.read_overrides.ensures.looks.reads

pub returns-in-Err-clause-not_closed : goal.returns-in-Err-clause-not_closed
returns-in-Err-clause-not_closed g c = fault_within c.in-Err.fault c.broken.result.reply (c.broken.ensures.reply ∙ ap Broken c.breakage_of.ensures)
