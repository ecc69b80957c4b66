use Rattle.std.proofs.Common.{◌≡◌, ◌∙◌, inl, inr, sym, ap, subst, Option, List, Result, Some, None, Err, Ok}
use Rattle.host_core.specs.Host.{AtEachMomentOf}
use Rattle.host_core.specs.Paths.{Path}
use Rattle.host_core.proofs.Barriers.{answered_here}
use Rattle.package_tree.specs.declared.package.Package.{Package}
use Rattle.unit_reports.specs.Held.{held_by}
use Rattle.unit_reports.specs.Units.{IsBroken}
use Rattle.unit_reports.specs.declared.refusal.Rule.{Rule}
use Rattle.unit_reports.specs.declared.refusal.Rule.TheVariants.{OwnerUnknown}
use Rattle.unit_reports.proofs.Counting.{counts_no_memory, no_fault_here, no_memory_within}
use Rattle.dpkg_session.specs.Overriding.{taken_by, taken_from}
use Rattle.dpkg_session.specs.Run.{IsAmidTaken}
use Rattle.dpkg_session.specs.Units.{HasCalledTaken, IsTakenUnit}
use Rattle.dpkg_session.proofs.Runs.{counts_refused, refused_within}
use Rattle.dpkg_session.proofs.Taken.{not_begun_taken, since_taken_start, taken_owner, taken_refused, taken_whole}
use Rattle.dpkg_session.proofs.overriding.unit_with.Goals as goal

pub returns-in-Ok-Some-clause-unit : goal.returns-in-Ok-Some-clause-unit
returns-in-Ok-Some-clause-unit g c =
    let h = held_by c.args.administration.now c.args.diversions.now in
    let is = taken_owner c.args.overrides.now c.args.incoming c.in-Ok-Some.path _ c.in-Ok-Some.field-0-is c.in-Ok-Some.ensures in
    inr (taken_refused c.args.allowed c.args.incoming.name (taken_from c.args.overrides.now c.args.incoming) (OwnerUnknown c.in-Ok-Some.path) h c.refused.result _ is c.refused.ensures)

pub returns-in-Ok-Some-clause-any_moment : goal.returns-in-Ok-Some-clause-any_moment
returns-in-Ok-Some-clause-any_moment g c = since_taken_start c.args.allowed (taken_from c.args.overrides.now c.args.incoming) (held_by c.args.administration.now c.args.diversions.now) (g.H.Host.state c.args.host.now)

pub returns-in-Ok-Some-clause-told : goal.returns-in-Ok-Some-clause-told
returns-in-Ok-Some-clause-told g c = not_begun_taken c.args.allowed (taken_from c.args.overrides.now c.args.incoming) (held_by c.args.administration.now c.args.diversions.now) c.refused.result _ c.refused.ensures.calls

pub returns-in-Ok-Some-clause-counts : goal.returns-in-Ok-Some-clause-counts
returns-in-Ok-Some-clause-counts g c = counts_refused _ _ c.refused.result (g.H.Host.state c.args.host.now) c.refused.ensures

pub returns-in-Ok-Some-clause-answered : goal.returns-in-Ok-Some-clause-answered
returns-in-Ok-Some-clause-answered g c = inr (answered_here (g.H.Host.state c.args.host.now))

pub returns-in-Err-clause-any_moment : goal.returns-in-Err-clause-any_moment
returns-in-Err-clause-any_moment g c = since_taken_start c.args.allowed (taken_from c.args.overrides.now c.args.incoming) (held_by c.args.administration.now c.args.diversions.now) (g.H.Host.state c.args.host.now)

pub returns-in-Err-clause-told : goal.returns-in-Err-clause-told
returns-in-Err-clause-told g c = not_begun_taken c.args.allowed (taken_from c.args.overrides.now c.args.incoming) (held_by c.args.administration.now c.args.diversions.now) c.broken.result _ (c.broken.ensures.told ∙ c.new.ensures.items)

pub returns-in-Err-clause-counts : goal.returns-in-Err-clause-counts
returns-in-Err-clause-counts g c = counts_no_memory c.broken.result.reply (g.H.Host.state c.args.host.now) (g.H.Host.state c.args.host.now) (no_fault_here (g.H.Host.state c.args.host.now)) c.broken.ensures.reply

pub returns-in-Ok-None-clause-unit : goal.returns-in-Ok-None-clause-unit
returns-in-Ok-None-clause-unit g c =
    let h = held_by c.args.administration.now c.args.diversions.now in
    let after = held_by c.unit_of_followed.new.administration c.unit_of_followed.new.diversions in
    let s = g.H.Host.state c.args.host.now in
    let t = g.H.Host.state c.unit_of_followed.new.host in
    let whole = taken_whole c.args.overrides.now c.args.incoming c.override_accesses-overridden.result _ c.in-Ok-None.field-0-is c.in-Ok-None.ensures c.override_accesses-overridden.ensures in
    elim c.unit_of_followed.ensures.unit [
      | inl broken ↦ inl broken
      | inr is ↦ inr (subst (λ (r : Result Package Rule). IsTakenUnit c.args.allowed c.args.incoming.name r h after c.unit_of_followed.result s t) (sym whole) is)
    ]

pub returns-in-Ok-None-clause-told : goal.returns-in-Ok-None-clause-told
returns-in-Ok-None-clause-told g c =
    let whole = taken_whole c.args.overrides.now c.args.incoming c.override_accesses-overridden.result _ c.in-Ok-None.field-0-is c.in-Ok-None.ensures c.override_accesses-overridden.ensures in
    subst (λ (r : Result Package Rule). HasCalledTaken c.args.allowed r (held_by c.args.administration.now c.args.diversions.now) c.unit_of_followed.result (g.H.Host.state c.args.host.now) (g.H.Host.state c.unit_of_followed.new.host)) (sym whole) c.unit_of_followed.ensures.told

pub returns-in-Ok-None-clause-any_moment : goal.returns-in-Ok-None-clause-any_moment
returns-in-Ok-None-clause-any_moment g c =
    let whole = taken_whole c.args.overrides.now c.args.incoming c.override_accesses-overridden.result _ c.in-Ok-None.field-0-is c.in-Ok-None.ensures c.override_accesses-overridden.ensures in
    subst (λ (r : Result Package Rule). AtEachMomentOf (IsAmidTaken c.args.allowed r (held_by c.args.administration.now c.args.diversions.now)) (g.H.Host.state c.args.host.now) (g.H.Host.state c.unit_of_followed.new.host)) (sym whole) c.unit_of_followed.ensures.any_moment

pub returns-in-Ok-Some-clause-not_closed : goal.returns-in-Ok-Some-clause-not_closed
returns-in-Ok-Some-clause-not_closed g c = refused_within _ _ c.refused.result c.refused.ensures

pub returns-in-Err-clause-not_closed : goal.returns-in-Err-clause-not_closed
returns-in-Err-clause-not_closed g c = no_memory_within c.broken.result.reply c.broken.ensures.reply
