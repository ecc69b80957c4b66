use Rattle.std.proofs.Common.{inl, inr, ◌∙◌}
use Rattle.unit_reports.specs.Held.{held_by}
use Rattle.dpkg_session.proofs.Amid.{since_decided_start}
use Rattle.dpkg_session.proofs.Told.{not_begun_decided}
use Rattle.dpkg_session.proofs.units.unit_of_followed.Goals as goal
use Rattle.unit_reports.proofs.Counting.{counts_no_memory, no_fault_here, no_memory_within}

pub decide_and_unpack-unit-requires-clause-open : goal.decide_and_unpack-unit-requires-clause-open
decide_and_unpack-unit-requires-clause-open g c = record { noting = c.requires.open.noting; listing = c.requires.open.listing; kept = c.requires.open.kept }

pub returns-in-Ok-clause-open : goal.returns-in-Ok-clause-open
returns-in-Ok-clause-open g c =
    elim c.decide_and_unpack-unit.ensures.open [ inl broken ↦ inl broken | inr is ↦ inr (record { noting = is.noting; listing = is.listing; kept = is.kept }) ]

pub returns-in-Err-clause-any_moment : goal.returns-in-Err-clause-any_moment
returns-in-Err-clause-any_moment g c = since_decided_start c.args.allowed c.args.incoming (held_by c.args.administration.now c.args.diversions.now) (g.H.Host.state c.args.host.now)

pub returns-in-Err-clause-told : goal.returns-in-Err-clause-told
returns-in-Err-clause-told g c = not_begun_decided c.args.allowed c.args.incoming (held_by c.args.administration.now c.args.diversions.now) c.broken.result _ (c.broken.ensures.told ∙ c.new.ensures.items)

pub returns-in-Err-clause-counts : goal.returns-in-Err-clause-counts
returns-in-Err-clause-counts g c = counts_no_memory c.broken.result.reply (g.H.Host.state c.args.host.now) (g.H.Host.state c.args.host.now) (no_fault_here (g.H.Host.state c.args.host.now)) c.broken.ensures.reply

pub returns-in-Err-clause-not_closed : goal.returns-in-Err-clause-not_closed
returns-in-Err-clause-not_closed g c = no_memory_within c.broken.result.reply c.broken.ensures.reply
