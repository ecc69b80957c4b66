use Rattle.unit_reports.specs.Held.{held_by}
use Rattle.dpkg_session.proofs.Amid.{since_unit_start}
use Rattle.dpkg_session.proofs.Runs.{barred_for, barred_undamaged, broken_by, is_broken_off, is_whole, not_broken, ready_after}
use Rattle.dpkg_session.proofs.Told.{called_tells, not_begun}
use Rattle.dpkg_session.proofs.unpacks.take_unit.Goals as goal
use Rattle.unit_reports.proofs.Counting.{counts_whole, not_abandoned, not_closed}
use Rattle.unit_runs.proofs.Barred.{barred_counts, barred_not_closed}

pub returns-clause-ok : goal.returns-clause-ok
returns-clause-ok g c =
    let unit = c.unit_of-unit in
    record {
      is = not_broken unit.result.reply c.is_broken.result c.if-is_broken.false c.is_broken.ensures unit.ensures.unit;
      moments = unit.ensures.any_moment;
      answered = not_broken unit.result.reply c.is_broken.result c.if-is_broken.false c.is_broken.ensures unit.ensures.answered;
      counts = unit.ensures.counts;
    }

pub returns-clause-order : goal.returns-clause-order
returns-clause-order g c =
    let unit = c.unit_of-unit in
    ready_after c.args.allowed c.args.candidate (held_by c.args.administration.now c.args.diversions.now) (held_by unit.new.administration unit.new.diversions) unit.result (g.H.Host.state c.args.host.now) (g.H.Host.state unit.new.host) c.requires.order
    (not_broken unit.result.reply c.is_broken.result c.if-is_broken.false c.is_broken.ensures unit.ensures.unit)

pub returns-clause-open : goal.returns-clause-open
returns-clause-open g c = not_broken c.unit_of-unit.result.reply c.is_broken.result c.if-is_broken.false c.is_broken.ensures c.unit_of-unit.ensures.open

pub returns-clause-indexed : goal.returns-clause-indexed
returns-clause-indexed g c = not_broken c.unit_of-unit.result.reply c.is_broken.result c.if-is_broken.false c.is_broken.ensures c.unit_of-unit.ensures.indexed

pub returns-clause-told : goal.returns-clause-told
returns-clause-told g c =
    let unit = c.unit_of-unit in
    called_tells c.args.allowed c.args.candidate.tree (held_by c.args.administration.now c.args.diversions.now) unit.result (g.H.Host.state c.args.host.now) (g.H.Host.state unit.new.host) unit.ensures.told

pub returns-clause-no_fault : goal.returns-clause-no_fault
returns-clause-no_fault g c =
    let unit = c.unit_of-unit in
    counts_whole unit.result.reply (g.H.Host.state c.args.host.now) (g.H.Host.state unit.new.host) (is_whole unit.result.reply c.is_broken.result c.if-is_broken.false c.is_broken.ensures) unit.ensures.counts

pub returns-in-Err-clause-any_moment : goal.returns-in-Err-clause-any_moment
returns-in-Err-clause-any_moment g c = since_unit_start c.args.allowed c.args.candidate.tree (held_by c.args.administration.now c.args.diversions.now) (g.H.Host.state c.args.host.now)

pub returns-in-Err-clause-broken_off : goal.returns-in-Err-clause-broken_off
returns-in-Err-clause-broken_off g c =
    let unit = c.barred_unit.result in
    record {
      broken = broken_by _ unit.reply c.barred_unit.ensures.reply;
      untouched = c.barred_unit.ensures.touched;
      called = not_begun c.args.allowed c.args.candidate.tree (held_by c.args.administration.now c.args.diversions.now) unit (g.H.Host.state c.args.host.now) c.barred_unit.ensures.told;
      damaged = λ told h. absurd (barred_undamaged c.in-Err.bar unit.reply c.barred_unit.ensures.reply told);
    }

pub returns-in-Err-clause-counts : goal.returns-in-Err-clause-counts
returns-in-Err-clause-counts g c = barred_counts c.in-Err.bar c.barred_unit.result.reply (g.H.Host.state c.args.host.now) c.barred_unit.ensures.reply

pub returns-in-Err-clause-not_closed : goal.returns-in-Err-clause-not_closed
returns-in-Err-clause-not_closed g c = barred_not_closed c.in-Err.bar c.barred_unit.result.reply c.barred_unit.ensures.reply

pub returns-in-Err-clause-abandoned : goal.returns-in-Err-clause-abandoned
returns-in-Err-clause-abandoned g c told = c.in-Err.ensures.abandoned (barred_for c.in-Err.bar c.barred_unit.result.reply c.barred_unit.ensures.reply told)

pub returns-then-is_broken-clause-broken_off : goal.returns-then-is_broken-clause-broken_off
returns-then-is_broken-clause-broken_off g c =
    let broken = is_broken_off c.unit_of-unit.result.reply c.is_broken.result c.if-is_broken.true c.is_broken.ensures in
    record { broken = broken; untouched = c.unit_of-unit.ensures.untouched broken; called = c.unit_of-unit.ensures.told; damaged = c.unit_of-unit.ensures.damaged }

pub returns-then-is_broken-clause-not_closed : goal.returns-then-is_broken-clause-not_closed
returns-then-is_broken-clause-not_closed g c = not_closed c.unit_of-unit.result.reply c.unit_of-unit.ensures.not_closed

pub returns-then-is_broken-clause-abandoned : goal.returns-then-is_broken-clause-abandoned
returns-then-is_broken-clause-abandoned g c told = absurd (not_abandoned c.unit_of-unit.result.reply c.unit_of-unit.ensures.not_closed told)
