use Rattle.std.proofs.Common.{◌∙◌}
use Rattle.unit_reports.specs.Held.{held_by}
use Rattle.dpkg_session.proofs.Amid.{since_unpack_start}
use Rattle.dpkg_session.proofs.Told.{called_nothing}
use Rattle.dpkg_session.proofs.units.unpack_unit.Goals as goal
use Rattle.unit_reports.proofs.Counting.{counts_no_memory, no_fault_here, no_memory_within}

pub returns-in-Err-clause-any_moment : goal.returns-in-Err-clause-any_moment
returns-in-Err-clause-any_moment g c = since_unpack_start c.args.incoming c.args.beside.now (held_by c.args.administration.now c.args.diversions.now) (g.H.Host.state c.args.host.now)

pub returns-in-Err-clause-told : goal.returns-in-Err-clause-told
returns-in-Err-clause-told g c = called_nothing c.args.incoming c.args.beside.now (held_by c.args.administration.now c.args.diversions.now) _ _ (c.broken.ensures.told ∙ c.new.ensures.items)

pub returns-in-Err-clause-counts : goal.returns-in-Err-clause-counts
returns-in-Err-clause-counts g c = counts_no_memory c.broken.result.reply (g.H.Host.state c.args.host.now) (g.H.Host.state c.args.host.now) (no_fault_here (g.H.Host.state c.args.host.now)) c.broken.ensures.reply

pub returns-in-Err-clause-not_closed : goal.returns-in-Err-clause-not_closed
returns-in-Err-clause-not_closed g c = no_memory_within c.broken.result.reply c.broken.ensures.reply
