use Rattle.std.proofs.Common.{inr}
use Rattle.unit_reports.specs.Held.{held_by}
use Rattle.dpkg_session.proofs.Amid.{since_read, since_unit_start}
use Rattle.dpkg_session.proofs.Runs.{counts_refused, of_read, of_unread, refused_within}
use Rattle.dpkg_session.proofs.Told.{called_read, not_begun}
use Rattle.dpkg_session.proofs.units.unit_of.Goals as goal
use Rattle.host_core.proofs.Barriers.{answered_here}

pub returns-in-Ok-clause-unit : goal.returns-in-Ok-clause-unit
returns-in-Ok-clause-unit g c = of_read c.args.allowed c.args.candidate _ _ _ c.unit_of_package.result _ _ c.in-Ok.is c.unit_of_package.ensures.unit

pub returns-in-Err-clause-unit : goal.returns-in-Err-clause-unit
returns-in-Err-clause-unit g c = inr (of_unread c.args.allowed c.args.candidate _ _ c.refused.result _ c.in-Err.is c.refused.ensures)

pub returns-in-Ok-clause-any_moment : goal.returns-in-Ok-clause-any_moment
returns-in-Ok-clause-any_moment g c = since_read c.args.allowed _ _ _ _ _ c.in-Ok.is c.unit_of_package.ensures.any_moment

pub returns-in-Err-clause-any_moment : goal.returns-in-Err-clause-any_moment
returns-in-Err-clause-any_moment g c = since_unit_start c.args.allowed c.args.candidate.tree (held_by c.args.administration.now c.args.diversions.now) (g.H.Host.state c.args.host.now)

pub returns-in-Ok-clause-told : goal.returns-in-Ok-clause-told
returns-in-Ok-clause-told g c = called_read c.args.allowed _ _ _ c.unit_of_package.result _ _ c.in-Ok.is c.unit_of_package.ensures.told

pub returns-in-Err-clause-told : goal.returns-in-Err-clause-told
returns-in-Err-clause-told g c = not_begun c.args.allowed c.args.candidate.tree (held_by c.args.administration.now c.args.diversions.now) c.refused.result (g.H.Host.state c.args.host.now) c.refused.ensures.calls

pub returns-in-Err-clause-counts : goal.returns-in-Err-clause-counts
returns-in-Err-clause-counts g c = counts_refused _ _ c.refused.result (g.H.Host.state c.args.host.now) c.refused.ensures

pub returns-in-Err-clause-answered : goal.returns-in-Err-clause-answered
returns-in-Err-clause-answered g c = inr (answered_here (g.H.Host.state c.args.host.now))

pub returns-in-Err-clause-not_closed : goal.returns-in-Err-clause-not_closed
returns-in-Err-clause-not_closed g c = refused_within _ _ c.refused.result c.refused.ensures
