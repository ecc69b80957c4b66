use Rattle.unit_reports.proofs.Counting.{not_abandoned, not_closed}
use Rattle.unit_runs.proofs.Barred.{barred_abandoned, barred_broken, barred_counts, barred_not_closed}
use Rattle.record_changes.proofs.units.change_one.Goals as goal

pub returns-in-Some-clause-err : goal.returns-in-Some-clause-err
returns-in-Some-clause-err g c = (barred_broken c.in-Some.bar c.barred_unit.result.reply c.barred_unit.ensures.reply, c.barred_unit.ensures.touched)

pub returns-in-Some-clause-counts : goal.returns-in-Some-clause-counts
returns-in-Some-clause-counts g c = barred_counts c.in-Some.bar c.barred_unit.result.reply (g.H.Host.state c.args.host.now) c.barred_unit.ensures.reply

pub returns-in-Some-clause-not_closed : goal.returns-in-Some-clause-not_closed
returns-in-Some-clause-not_closed g c = barred_not_closed c.in-Some.bar c.barred_unit.result.reply c.barred_unit.ensures.reply

pub returns-in-Some-clause-abandoned : goal.returns-in-Some-clause-abandoned
returns-in-Some-clause-abandoned g c = barred_abandoned c.in-Some.bar c.args.barred c.barred_unit.result.reply c.in-Some.is c.barred_unit.ensures.reply

pub returns-then-is_broken-clause-not_closed : goal.returns-then-is_broken-clause-not_closed
returns-then-is_broken-clause-not_closed g c = not_closed c.change_named-unit.result.reply c.change_named-unit.ensures.not_closed

pub returns-then-is_broken-clause-abandoned : goal.returns-then-is_broken-clause-abandoned
returns-then-is_broken-clause-abandoned g c = λ abandoned. absurd (not_abandoned c.change_named-unit.result.reply c.change_named-unit.ensures.not_closed abandoned)
