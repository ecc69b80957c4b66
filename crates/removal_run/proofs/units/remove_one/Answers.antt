use Rattle.unit_reports.proofs.Counting.{counts_whole, not_abandoned, not_closed}
use Rattle.unit_reports.specs.Held.{held_by}
use Rattle.unit_runs.proofs.Barred.{barred_abandoned, barred_broken, barred_counts, barred_not_closed}
use Rattle.removal_run.proofs.Calling.{removing_tells}
use Rattle.removal_run.proofs.Removals.{called_none}
use Rattle.removal_run.proofs.Replies.{is_broken_off, is_whole, not_broken}
use Rattle.removal_run.proofs.units.remove_one.Goals as goal

pub returns-clause-ok : goal.returns-clause-ok
returns-clause-ok g c =
    let unit = c.remove_named-unit.result in
    record {
      is = not_broken unit.reply c.is_broken.result c.if-is_broken.false c.is_broken.ensures c.remove_named-unit.ensures.unit;
      moments = c.remove_named-unit.ensures.any_moment;
      answered = not_broken unit.reply c.is_broken.result c.if-is_broken.false c.is_broken.ensures c.remove_named-unit.ensures.answered;
    }

pub returns-clause-open : goal.returns-clause-open
returns-clause-open g c = not_broken c.remove_named-unit.result.reply c.is_broken.result c.if-is_broken.false c.is_broken.ensures c.remove_named-unit.ensures.open

pub returns-clause-others : goal.returns-clause-others
returns-clause-others g c = not_broken c.remove_named-unit.result.reply c.is_broken.result c.if-is_broken.false c.is_broken.ensures c.remove_named-unit.ensures.others

pub returns-clause-told : goal.returns-clause-told
returns-clause-told g c = removing_tells _ _ _ (g.H.Host.state c.args.host.now) (g.H.Host.state c.remove_named-unit.new.host) _ _ c.remove_named-unit.ensures.told

pub returns-in-Some-clause-broken_off : goal.returns-in-Some-clause-broken_off
returns-in-Some-clause-broken_off g c = record {
  broken = barred_broken c.in-Some.bar c.barred_unit.result.reply c.barred_unit.ensures.reply;
  untouched = c.barred_unit.ensures.touched;
  called = called_none c.args.purge c.args.«package» (held_by c.args.administration.now c.args.diversions.now) (g.H.Host.state c.args.host.now) c.barred_unit.result.calls.items c.barred_unit.ensures.told;
}

pub returns-then-is_broken-clause-broken_off : goal.returns-then-is_broken-clause-broken_off
returns-then-is_broken-clause-broken_off g c =
    let broken = is_broken_off c.remove_named-unit.result.reply c.is_broken.result c.if-is_broken.true c.is_broken.ensures in
    record { broken = broken; untouched = c.remove_named-unit.ensures.untouched broken; called = c.remove_named-unit.ensures.told }

pub returns-clause-no_fault : goal.returns-clause-no_fault
returns-clause-no_fault g c =
    let unit = c.remove_named-unit.result in
    counts_whole unit.reply (g.H.Host.state c.args.host.now) (g.H.Host.state c.remove_named-unit.new.host) (is_whole unit.reply c.is_broken.result c.if-is_broken.false c.is_broken.ensures) c.remove_named-unit.ensures.counts

pub returns-in-Some-clause-counts : goal.returns-in-Some-clause-counts
returns-in-Some-clause-counts g c = barred_counts c.in-Some.bar c.barred_unit.result.reply (g.H.Host.state c.args.host.now) c.barred_unit.ensures.reply

pub returns-in-Some-clause-not_closed : goal.returns-in-Some-clause-not_closed
returns-in-Some-clause-not_closed g c = barred_not_closed c.in-Some.bar c.barred_unit.result.reply c.barred_unit.ensures.reply

pub returns-in-Some-clause-abandoned : goal.returns-in-Some-clause-abandoned
returns-in-Some-clause-abandoned g c = barred_abandoned c.in-Some.bar c.args.barred c.barred_unit.result.reply c.in-Some.is c.barred_unit.ensures.reply

pub returns-then-is_broken-clause-not_closed : goal.returns-then-is_broken-clause-not_closed
returns-then-is_broken-clause-not_closed g c = not_closed c.remove_named-unit.result.reply c.remove_named-unit.ensures.not_closed

pub returns-then-is_broken-clause-abandoned : goal.returns-then-is_broken-clause-abandoned
returns-then-is_broken-clause-abandoned g c = λ abandoned. absurd (not_abandoned c.remove_named-unit.result.reply c.remove_named-unit.ensures.not_closed abandoned)
