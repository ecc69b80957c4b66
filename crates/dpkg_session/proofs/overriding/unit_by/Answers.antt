use Rattle.std.proofs.Common.{inl, inr, sym, ap, subst, Result, ℕ}
use Rattle.host_core.specs.Host.{AtEachMomentOf}
use Rattle.stat_overrides.specs.declared.table.Overrides.{Overrides}
use Rattle.unit_reports.specs.Held.{held_by}
use Rattle.unit_reports.specs.declared.refusal.Rule.TheVariants.{OverrideLine}
use Rattle.dpkg_session.specs.Overriding.{taken_with}
use Rattle.dpkg_session.specs.Run.{IsAmidTaken}
use Rattle.dpkg_session.specs.Units.{HasCalledTaken, IsTakenUnit}
use Rattle.dpkg_session.proofs.Runs.{refused_within}
use Rattle.dpkg_session.proofs.Taken.{not_begun_taken, since_taken_start, taken_refused}
use Rattle.dpkg_session.proofs.overriding.unit_by.Goals as goal

pub returns-in-Err-clause-unit : goal.returns-in-Err-clause-unit
returns-in-Err-clause-unit g c =
    inr (taken_refused c.args.allowed c.args.incoming.name (taken_with c.args.read c.args.incoming) (OverrideLine c.in-Err.line) (held_by c.args.administration.now c.args.diversions.now) c.refused.result (g.H.Host.state c.args.host.now)
    (ap (λ (r : Result Overrides ℕ). taken_with r c.args.incoming) c.in-Err.is) c.refused.ensures)

pub returns-in-Err-clause-any_moment : goal.returns-in-Err-clause-any_moment
returns-in-Err-clause-any_moment g c = since_taken_start c.args.allowed (taken_with c.args.read c.args.incoming) (held_by c.args.administration.now c.args.diversions.now) (g.H.Host.state c.args.host.now)

pub returns-in-Err-clause-told : goal.returns-in-Err-clause-told
returns-in-Err-clause-told g c = not_begun_taken c.args.allowed (taken_with c.args.read c.args.incoming) (held_by c.args.administration.now c.args.diversions.now) c.refused.result (g.H.Host.state c.args.host.now) c.refused.ensures.calls

pub returns-in-Ok-clause-unit : goal.returns-in-Ok-clause-unit
returns-in-Ok-clause-unit g c =
    let h = held_by c.args.administration.now c.args.diversions.now in
    let after = held_by c.unit_with.new.administration c.unit_with.new.diversions in
    let s = g.H.Host.state c.args.host.now in
    let t = g.H.Host.state c.unit_with.new.host in
    elim c.unit_with.ensures.unit [
      | inl broken ↦ inl broken
      | inr is ↦ inr (subst (λ (r : Result Overrides ℕ). IsTakenUnit c.args.allowed c.args.incoming.name (taken_with r c.args.incoming) h after c.unit_with.result s t) (sym c.in-Ok.is) is)
    ]

pub returns-in-Ok-clause-told : goal.returns-in-Ok-clause-told
returns-in-Ok-clause-told g c =
    subst (λ (r : Result Overrides ℕ). HasCalledTaken c.args.allowed (taken_with r c.args.incoming) (held_by c.args.administration.now c.args.diversions.now) c.unit_with.result (g.H.Host.state c.args.host.now) (g.H.Host.state c.unit_with.new.host)) (sym c.in-Ok.is) c.unit_with.ensures.told

pub returns-in-Ok-clause-any_moment : goal.returns-in-Ok-clause-any_moment
returns-in-Ok-clause-any_moment g c =
    subst (λ (r : Result Overrides ℕ). AtEachMomentOf (IsAmidTaken c.args.allowed (taken_with r c.args.incoming) (held_by c.args.administration.now c.args.diversions.now)) (g.H.Host.state c.args.host.now) (g.H.Host.state c.unit_with.new.host)) (sym c.in-Ok.is) c.unit_with.ensures.any_moment

pub returns-in-Err-clause-not_closed : goal.returns-in-Err-clause-not_closed
returns-in-Err-clause-not_closed g c = refused_within _ _ c.refused.result c.refused.ensures
