use Rattle.std.proofs.Common.{ap, inl, inr, sym, subst, ◌∙◌}
use Rattle.std.specs.Prelude.{IfSome}
use Rattle.held_administration.specs.Order.{IsInOrder}
use Rattle.held_administration.specs.declared.held.Administration.{Administration}
use Rattle.host_core.specs.World.{World}
use Rattle.recorded_packages.specs.Packages.{ArePackagesOf}
use Rattle.unit_reports.specs.Held.{held_by}
use Rattle.unit_reports.proofs.Counting.{counts_from}
use Rattle.unit_reports.specs.declared.report.Reply.TheVariants.{Broken}
use Rattle.dpkg_session.proofs.ReadingFaults.{counts_reading, damage_of, reading_within}
use Rattle.dpkg_session.proofs.Growth.{answered_from, looked_moments, package_called, package_moments, package_unit}
use Rattle.dpkg_session.proofs.units.unit_of_package.Goals as goal

pub unit_of_overridden-requires-clause-order : goal.unit_of_overridden-requires-clause-order
unit_of_overridden-requires-clause-order g c = λ h.
    let looked = c.read_for_tree.ensures in
    subst (λ (a : Administration). IsInOrder a.database a.lists.lists (g.H.Host.state c.read_for_tree.new.host).world) (sym looked.same)
    (subst (λ (w : World). IsInOrder c.args.administration.now.database c.args.administration.now.lists.lists w) (sym looked.reads.world) (c.requires.order (looked.reads.honest h)))

pub unit_of_overridden-requires-clause-indexed : goal.unit_of_overridden-requires-clause-indexed
unit_of_overridden-requires-clause-indexed g c = subst (λ (a : Administration). IfSome a.packages (ArePackagesOf a.database.records)) (sym c.read_for_tree.ensures.same) c.requires.indexed

pub returns-in-Ok-clause-unit : goal.returns-in-Ok-clause-unit
returns-in-Ok-clause-unit g c =
    let looked = c.read_for_tree.ensures in
    let s = g.H.Host.state c.args.host.now in
    let m = g.H.Host.state c.read_for_tree.new.host in
    let t = g.H.Host.state c.unit_of_overridden.new.host in
    elim c.unit_of_overridden.ensures.unit [
      | inl broken ↦ inl broken
      | inr is ↦ inr (package_unit s m looked.reads looked.silent c.args.allowed c.args.incoming (held_by c.args.administration.now c.args.diversions.now) (held_by c.read_for_tree.new.administration c.read_for_tree.new.diversions) c.read_for_tree.new.diversions.ways (ap (λ (a : Administration). held_by a c.read_for_tree.new.diversions) c.read_for_tree.ensures.same) c.in-Ok.ensures.read
          c.unit_of_overridden.result t c.unit_of_overridden.ensures.any_moment.honest (held_by c.unit_of_overridden.new.administration c.unit_of_overridden.new.diversions) is)
    ]

pub returns-in-Ok-clause-told : goal.returns-in-Ok-clause-told
returns-in-Ok-clause-told g c =
    let looked = c.read_for_tree.ensures in
    let s = g.H.Host.state c.args.host.now in
    let m = g.H.Host.state c.read_for_tree.new.host in
    let t = g.H.Host.state c.unit_of_overridden.new.host in
    package_called s m looked.reads looked.silent c.args.allowed c.args.incoming (held_by c.args.administration.now c.args.diversions.now) (held_by c.read_for_tree.new.administration c.read_for_tree.new.diversions) c.read_for_tree.new.diversions.ways (ap (λ (a : Administration). held_by a c.read_for_tree.new.diversions) c.read_for_tree.ensures.same) c.in-Ok.ensures.read
    c.unit_of_overridden.result t c.unit_of_overridden.ensures.any_moment.honest c.unit_of_overridden.ensures.told

pub returns-in-Ok-clause-any_moment : goal.returns-in-Ok-clause-any_moment
returns-in-Ok-clause-any_moment g c =
    let looked = c.read_for_tree.ensures in
    let s = g.H.Host.state c.args.host.now in
    let m = g.H.Host.state c.read_for_tree.new.host in
    let t = g.H.Host.state c.unit_of_overridden.new.host in
    package_moments s m looked.reads looked.silent c.args.allowed c.args.incoming (held_by c.args.administration.now c.args.diversions.now) (held_by c.read_for_tree.new.administration c.read_for_tree.new.diversions) c.read_for_tree.new.diversions.ways (ap (λ (a : Administration). held_by a c.read_for_tree.new.diversions) c.read_for_tree.ensures.same) c.in-Ok.ensures.read
    c.unit_of_overridden.result t c.unit_of_overridden.ensures.any_moment.honest c.in-Ok.ensures.counts c.unit_of_overridden.ensures.any_moment

pub returns-in-Ok-clause-answered : goal.returns-in-Ok-clause-answered
returns-in-Ok-clause-answered g c =
    elim c.unit_of_overridden.ensures.answered [
      | inl broken ↦ inl broken
      | inr is ↦ inr (answered_from (g.H.Host.state c.args.host.now) (g.H.Host.state c.read_for_tree.new.host) (g.H.Host.state c.unit_of_overridden.new.host) c.read_for_tree.ensures.reads is)
    ]

pub returns-in-Ok-clause-counts : goal.returns-in-Ok-clause-counts
returns-in-Ok-clause-counts g c =
    counts_from c.unit_of_overridden.result.reply (g.H.Host.state c.args.host.now) (g.H.Host.state c.read_for_tree.new.host) (g.H.Host.state c.unit_of_overridden.new.host) c.in-Ok.ensures.counts c.unit_of_overridden.ensures.counts

pub returns-in-Err-clause-told : goal.returns-in-Err-clause-told
returns-in-Err-clause-told g c = inl (record { silent = c.read_for_tree.ensures.silent; told = c.broken.ensures.told ∙ c.new.ensures.items })

pub returns-in-Err-clause-any_moment : goal.returns-in-Err-clause-any_moment
returns-in-Err-clause-any_moment g c =
    looked_moments c.args.allowed c.args.incoming (held_by c.args.administration.now c.args.diversions.now) (g.H.Host.state c.args.host.now) (g.H.Host.state c.read_for_tree.new.host) c.read_for_tree.ensures.reads

pub returns-in-Err-clause-damaged : goal.returns-in-Err-clause-damaged
returns-in-Err-clause-damaged g c = λ told h. damage_of c.in-Err.fault c.broken.result.reply (g.H.Host.state c.args.host.now).world (c.broken.ensures.reply ∙ ap Broken c.breakage_of.ensures) told (c.in-Err.ensures.damage h)

pub returns-in-Err-clause-counts : goal.returns-in-Err-clause-counts
returns-in-Err-clause-counts g c = counts_reading c.in-Err.fault c.broken.result.reply (g.H.Host.state c.args.host.now) (g.H.Host.state c.read_for_tree.new.host) (c.broken.ensures.reply ∙ ap Broken c.breakage_of.ensures) c.in-Err.ensures.counts

pub returns-in-Err-clause-not_closed : goal.returns-in-Err-clause-not_closed
returns-in-Err-clause-not_closed g c = reading_within c.in-Err.fault c.broken.result.reply (c.broken.ensures.reply ∙ ap Broken c.breakage_of.ensures)
