use Rattle.std.proofs.Common.{ap, refl, ◌∙◌}
use Rattle.held_administration.specs.declared.held.Administration.{Administration}
use Rattle.unit_reports.specs.Held.{held_by}
use Rattle.dpkg_session.proofs.Again.{counts_unread, unread_by, unread_not_abandoned, unread_not_closed}
use Rattle.dpkg_session.proofs.rereading.read_before.Goals as goal

pub returns-in-Ok-clause-read : goal.returns-in-Ok-clause-read
returns-in-Ok-clause-read g c =
    let read = c.reread.ensures in
    record { reads = read.reads; silent = read.silent; faults = c.in-Ok.ensures.counts; found = c.in-Ok.ensures.reread }

pub returns-in-Ok-clause-held : goal.returns-in-Ok-clause-held
returns-in-Ok-clause-held g c = ap (λ (a : Administration). held_by a c.reread.new.diversions) c.reread.ensures.same

pub returns-in-Err-clause-held : goal.returns-in-Err-clause-held
returns-in-Err-clause-held g c = ap (λ (a : Administration). held_by a c.reread.new.diversions) c.reread.ensures.same

pub returns-in-Err-clause-unread : goal.returns-in-Err-clause-unread
returns-in-Err-clause-unread g c =
    let read = c.reread.ensures in
    unread_by c.in-Err.fault c.unread_report.result (g.H.Host.state c.args.host.now) (g.H.Host.state c.reread.new.host) read.reads read.silent c.in-Err.ensures.damage c.unread_report.ensures.units c.unread_report.ensures.last

pub returns-in-Err-clause-counts : goal.returns-in-Err-clause-counts
returns-in-Err-clause-counts g c = counts_unread c.in-Err.fault c.unread_report.result.last (g.H.Host.state c.args.host.now) (g.H.Host.state c.reread.new.host) c.in-Err.ensures.counts c.unread_report.ensures.last

pub returns-in-Err-clause-not_closed : goal.returns-in-Err-clause-not_closed
returns-in-Err-clause-not_closed g c = unread_not_closed c.in-Err.fault c.unread_report.result.last c.unread_report.ensures.last

pub returns-in-Err-clause-not_abandoned : goal.returns-in-Err-clause-not_abandoned
returns-in-Err-clause-not_abandoned g c = unread_not_abandoned c.in-Err.fault c.unread_report.result.last c.unread_report.ensures.last
