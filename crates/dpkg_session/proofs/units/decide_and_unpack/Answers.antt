use Rattle.std.proofs.Common.{inl, inr, subst, ◌∙◌}
use Rattle.unit_reports.specs.Held.{held_by}
use Rattle.dpkg_session.proofs.Amid.{since_decided, since_decided_start}
use Rattle.dpkg_session.proofs.Runs.{by_refused, by_unpacked, counts_refused, refused_within}
use Rattle.dpkg_session.proofs.Told.{called_decided, not_begun_decided}
use Rattle.unpack_relations.specs.Checks.{AreBesideApart}
use Rattle.dpkg_session.proofs.units.decide_and_unpack.Goals as goal
use Rattle.host_core.proofs.Barriers.{answered_here}
use Rattle.unit_reports.proofs.Counting.{counts_no_memory, no_fault_here, no_memory_within}

pub unpack_unit-requires-clause-apart : goal.unpack_unit-requires-clause-apart
unpack_unit-requires-clause-apart g c = subst (AreBesideApart c.args.incoming.name c.args.administration.now.database.records) c.in-Ok-Planned.field-0-is (c.in-Ok-Planned.ensures.apart c.args.administration.now.database.records c.requires.indexed)

pub returns-in-Ok-Refused-clause-unit : goal.returns-in-Ok-Refused-clause-unit
returns-in-Ok-Refused-clause-unit g c = inr (by_refused _ _ _ _ (held_by c.args.administration.now c.args.diversions.now) c.refused.result _ (c.in-Ok-Refused.ensures.decided c.args.administration.now.database.records c.requires.indexed) c.in-Ok-Refused.field-0-is c.refused.ensures)

pub returns-in-Ok-Planned-clause-unit : goal.returns-in-Ok-Planned-clause-unit
returns-in-Ok-Planned-clause-unit g c = by_unpacked _ _ c.in-Ok-Planned.beside _ (held_by c.args.administration.now c.args.diversions.now) _ c.unpack_unit.result _ _ (c.in-Ok-Planned.ensures.decided c.args.administration.now.database.records c.requires.indexed) c.in-Ok-Planned.field-0-is c.unpack_unit.ensures.unit

pub returns-in-Ok-Refused-clause-any_moment : goal.returns-in-Ok-Refused-clause-any_moment
returns-in-Ok-Refused-clause-any_moment g c = since_decided_start c.args.allowed c.args.incoming (held_by c.args.administration.now c.args.diversions.now) (g.H.Host.state c.args.host.now)

pub returns-in-Err-clause-any_moment : goal.returns-in-Err-clause-any_moment
returns-in-Err-clause-any_moment g c = since_decided_start c.args.allowed c.args.incoming (held_by c.args.administration.now c.args.diversions.now) (g.H.Host.state c.args.host.now)

pub returns-in-Ok-Planned-clause-any_moment : goal.returns-in-Ok-Planned-clause-any_moment
returns-in-Ok-Planned-clause-any_moment g c = since_decided c.args.allowed c.args.incoming c.in-Ok-Planned.beside _ (held_by c.args.administration.now c.args.diversions.now) _ _ (c.in-Ok-Planned.ensures.decided c.args.administration.now.database.records c.requires.indexed) c.in-Ok-Planned.field-0-is c.unpack_unit.ensures.any_moment

pub returns-in-Ok-Refused-clause-told : goal.returns-in-Ok-Refused-clause-told
returns-in-Ok-Refused-clause-told g c = not_begun_decided c.args.allowed c.args.incoming (held_by c.args.administration.now c.args.diversions.now) c.refused.result _ c.refused.ensures.calls

pub returns-in-Err-clause-told : goal.returns-in-Err-clause-told
returns-in-Err-clause-told g c = not_begun_decided c.args.allowed c.args.incoming (held_by c.args.administration.now c.args.diversions.now) c.broken.result _ (c.broken.ensures.told ∙ c.new.ensures.items)

pub returns-in-Ok-Planned-clause-told : goal.returns-in-Ok-Planned-clause-told
returns-in-Ok-Planned-clause-told g c = called_decided _ _ c.in-Ok-Planned.beside _ (held_by c.args.administration.now c.args.diversions.now) c.unpack_unit.result _ _ (c.in-Ok-Planned.ensures.decided c.args.administration.now.database.records c.requires.indexed) c.in-Ok-Planned.field-0-is c.unpack_unit.ensures.told

pub returns-in-Ok-Refused-clause-counts : goal.returns-in-Ok-Refused-clause-counts
returns-in-Ok-Refused-clause-counts g c = counts_refused _ _ c.refused.result (g.H.Host.state c.args.host.now) c.refused.ensures

pub returns-in-Err-clause-counts : goal.returns-in-Err-clause-counts
returns-in-Err-clause-counts g c = counts_no_memory c.broken.result.reply (g.H.Host.state c.args.host.now) (g.H.Host.state c.args.host.now) (no_fault_here (g.H.Host.state c.args.host.now)) c.broken.ensures.reply

pub returns-in-Ok-Refused-clause-answered : goal.returns-in-Ok-Refused-clause-answered
returns-in-Ok-Refused-clause-answered g c = inr (answered_here (g.H.Host.state c.args.host.now))

pub returns-in-Ok-Planned-clause-answered : goal.returns-in-Ok-Planned-clause-answered
returns-in-Ok-Planned-clause-answered g c = elim c.unpack_unit.ensures.on_disk [ inl broken ↦ inl broken | inr disk ↦ inr (inl disk) ]

pub returns-in-Ok-Refused-clause-not_closed : goal.returns-in-Ok-Refused-clause-not_closed
returns-in-Ok-Refused-clause-not_closed g c = refused_within _ _ c.refused.result c.refused.ensures

pub returns-in-Err-clause-not_closed : goal.returns-in-Err-clause-not_closed
returns-in-Err-clause-not_closed g c = no_memory_within c.broken.result.reply c.broken.ensures.reply
