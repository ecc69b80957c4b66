use Rattle.std.proofs.Common.{ap, inl, inr, ◌∙◌}
use Rattle.diversions.specs.Diverted.{Diverted}
use Rattle.trigger_run.specs.Run.{HasRun, IsAmidRun, IsTriggerRun}
use Rattle.unit_reports.specs.Held.{Held, held_by}
use Rattle.host_core.specs.Host.{State}
use Rattle.unit_reports.proofs.Counting.{last_from}
use Rattle.dpkg_session.proofs.Again.{behind, behind_answered, behind_moments, behind_told, behind_watched, never_abandoned, unread_closes, unread_last, unread_moments, unread_told, unread_watched}
use Rattle.dpkg_session.proofs.Outlasting.{answered_stands, loses_like}
use Rattle.dpkg_session.proofs.session.Session.process_triggers.Goals as goal

pub returns-in-None-clause-whole : goal.returns-in-None-clause-whole
returns-in-None-clause-whole g c =
    let before = held_by c.args.self.now.administration c.args.self.now.diversions in
    let mid = held_by c.read_again.new.self.administration c.read_again.new.self.diversions in
    let ways = c.read_again.new.self.diversions.ways in
    let s = g.H.Host.state c.args.self.now.host in
    let m = g.H.Host.state c.read_again.new.self.host in
    let t = g.H.Host.state c.process_read.new.self.host in
    let done = c.process_read.ensures in
    λ open_before none. behind (λ (h : Held) (s : State). IsTriggerRun c.args.names.items c.process_read.result.units.items h (held_by c.process_read.new.self.administration c.process_read.new.self.diversions) s t) before mid ways s m c.in-None.ensures.read c.read_again.ensures.held (done.whole none)

pub returns-in-None-clause-part : goal.returns-in-None-clause-part
returns-in-None-clause-part g c =
    let before = held_by c.args.self.now.administration c.args.self.now.diversions in
    let mid = held_by c.read_again.new.self.administration c.read_again.new.self.diversions in
    let ways = c.read_again.new.self.diversions.ways in
    let s = g.H.Host.state c.args.self.now.host in
    let m = g.H.Host.state c.read_again.new.self.host in
    let t = g.H.Host.state c.process_read.new.self.host in
    let done = c.process_read.ensures in
    λ open_before. inr (behind (λ (h : Held) (s : State). HasRun c.args.names.items c.process_read.result.units.items c.process_read.result.last h s t) before mid ways s m c.in-None.ensures.read c.read_again.ensures.held done.part)

pub returns-in-None-clause-told : goal.returns-in-None-clause-told
returns-in-None-clause-told g c =
    let before = held_by c.args.self.now.administration c.args.self.now.diversions in
    let mid = held_by c.read_again.new.self.administration c.read_again.new.self.diversions in
    let ways = c.read_again.new.self.diversions.ways in
    let s = g.H.Host.state c.args.self.now.host in
    let m = g.H.Host.state c.read_again.new.self.host in
    let t = g.H.Host.state c.process_read.new.self.host in
    let done = c.process_read.ensures in
    behind_told before ways s m t c.process_read.result c.in-None.ensures.read done.told

pub returns-in-None-clause-any_moment : goal.returns-in-None-clause-any_moment
returns-in-None-clause-any_moment g c =
    let before = held_by c.args.self.now.administration c.args.self.now.diversions in
    let mid = held_by c.read_again.new.self.administration c.read_again.new.self.diversions in
    let ways = c.read_again.new.self.diversions.ways in
    let s = g.H.Host.state c.args.self.now.host in
    let m = g.H.Host.state c.read_again.new.self.host in
    let t = g.H.Host.state c.process_read.new.self.host in
    let done = c.process_read.ensures in
    λ open_before. behind_moments (λ (h : Held). IsAmidRun c.args.names.items h) before mid ways s m t c.in-None.ensures.read c.read_again.ensures.held done.any_moment

pub returns-in-None-clause-loss : goal.returns-in-None-clause-loss
returns-in-None-clause-loss g c =
    let before = held_by c.args.self.now.administration c.args.self.now.diversions in
    let mid = held_by c.read_again.new.self.administration c.read_again.new.self.diversions in
    let ways = c.read_again.new.self.diversions.ways in
    let s = g.H.Host.state c.args.self.now.host in
    let m = g.H.Host.state c.read_again.new.self.host in
    let t = g.H.Host.state c.process_read.new.self.host in
    let done = c.process_read.ensures in
    λ open_before. loses_like _ _ _ (g.H.Host.settled c.process_read.new.self.host) (behind_moments (λ (h : Held). IsAmidRun c.args.names.items h) before mid ways s m t c.in-None.ensures.read c.read_again.ensures.held done.any_moment)

pub returns-in-None-clause-stands : goal.returns-in-None-clause-stands
returns-in-None-clause-stands g c =
    let before = held_by c.args.self.now.administration c.args.self.now.diversions in
    let mid = held_by c.read_again.new.self.administration c.read_again.new.self.diversions in
    let ways = c.read_again.new.self.diversions.ways in
    let s = g.H.Host.state c.args.self.now.host in
    let m = g.H.Host.state c.read_again.new.self.host in
    let t = g.H.Host.state c.process_read.new.self.host in
    let done = c.process_read.ensures in
    λ open_before none. answered_stands _ _ _ (behind_moments (λ (h : Held). IsAmidRun c.args.names.items h) before mid ways s m t c.in-None.ensures.read c.read_again.ensures.held done.any_moment) (behind_answered before ways s m t c.in-None.ensures.read (done.answered none))

pub returns-in-None-clause-answered : goal.returns-in-None-clause-answered
returns-in-None-clause-answered g c =
    let before = held_by c.args.self.now.administration c.args.self.now.diversions in
    let mid = held_by c.read_again.new.self.administration c.read_again.new.self.diversions in
    let ways = c.read_again.new.self.diversions.ways in
    let s = g.H.Host.state c.args.self.now.host in
    let m = g.H.Host.state c.read_again.new.self.host in
    let t = g.H.Host.state c.process_read.new.self.host in
    let done = c.process_read.ensures in
    λ open_before none. behind_answered before ways s m t c.in-None.ensures.read (done.answered none)

pub returns-in-None-clause-diversions : goal.returns-in-None-clause-diversions
returns-in-None-clause-diversions g c =
    let before = held_by c.args.self.now.administration c.args.self.now.diversions in
    let mid = held_by c.read_again.new.self.administration c.read_again.new.self.diversions in
    let ways = c.read_again.new.self.diversions.ways in
    let s = g.H.Host.state c.args.self.now.host in
    let m = g.H.Host.state c.read_again.new.self.host in
    let t = g.H.Host.state c.process_read.new.self.host in
    let done = c.process_read.ensures in
    λ was. ap (λ (d : Diverted). d.closed) done.diversions ∙ c.read_again.ensures.diversions was

pub returns-in-None-clause-honest : goal.returns-in-None-clause-honest
returns-in-None-clause-honest g c =
    let before = held_by c.args.self.now.administration c.args.self.now.diversions in
    let mid = held_by c.read_again.new.self.administration c.read_again.new.self.diversions in
    let ways = c.read_again.new.self.diversions.ways in
    let s = g.H.Host.state c.args.self.now.host in
    let m = g.H.Host.state c.read_again.new.self.host in
    let t = g.H.Host.state c.process_read.new.self.host in
    let done = c.process_read.ensures in
    λ h. c.in-None.ensures.read.reads.honest (done.honest h)

pub returns-in-None-clause-counts : goal.returns-in-None-clause-counts
returns-in-None-clause-counts g c =
    let before = held_by c.args.self.now.administration c.args.self.now.diversions in
    let mid = held_by c.read_again.new.self.administration c.read_again.new.self.diversions in
    let ways = c.read_again.new.self.diversions.ways in
    let s = g.H.Host.state c.args.self.now.host in
    let m = g.H.Host.state c.read_again.new.self.host in
    let t = g.H.Host.state c.process_read.new.self.host in
    let done = c.process_read.ensures in
    λ open_before. last_from c.process_read.result.last s m t c.in-None.ensures.read.faults done.counts

pub returns-in-None-clause-watched : goal.returns-in-None-clause-watched
returns-in-None-clause-watched g c =
    let before = held_by c.args.self.now.administration c.args.self.now.diversions in
    let mid = held_by c.read_again.new.self.administration c.read_again.new.self.diversions in
    let ways = c.read_again.new.self.diversions.ways in
    let s = g.H.Host.state c.args.self.now.host in
    let m = g.H.Host.state c.read_again.new.self.host in
    let t = g.H.Host.state c.process_read.new.self.host in
    let done = c.process_read.ensures in
    behind_watched g.W.Watcher.tells before ways s m c.args.watcher.now c.process_read.new.watcher c.process_read.result.units.items c.in-None.ensures.read done.watched

pub returns-in-Some-clause-whole : goal.returns-in-Some-clause-whole
returns-in-Some-clause-whole g c =
    let before = held_by c.args.self.now.administration c.args.self.now.diversions in
    let s = g.H.Host.state c.args.self.now.host in
    let t = g.H.Host.state c.read_again.new.self.host in
    let unread = c.in-Some.ensures.unread in
    λ open_before none. absurd (unread_last c.in-Some.report.units.items c.in-Some.report.last s t unread none)

pub returns-in-Some-clause-part : goal.returns-in-Some-clause-part
returns-in-Some-clause-part g c =
    let before = held_by c.args.self.now.administration c.args.self.now.diversions in
    let s = g.H.Host.state c.args.self.now.host in
    let t = g.H.Host.state c.read_again.new.self.host in
    let unread = c.in-Some.ensures.unread in
    λ open_before. inl unread

pub returns-in-Some-clause-told : goal.returns-in-Some-clause-told
returns-in-Some-clause-told g c =
    let before = held_by c.args.self.now.administration c.args.self.now.diversions in
    let s = g.H.Host.state c.args.self.now.host in
    let t = g.H.Host.state c.read_again.new.self.host in
    let unread = c.in-Some.ensures.unread in
    unread_told c.in-Some.report s t unread

pub returns-in-Some-clause-any_moment : goal.returns-in-Some-clause-any_moment
returns-in-Some-clause-any_moment g c =
    let before = held_by c.args.self.now.administration c.args.self.now.diversions in
    let s = g.H.Host.state c.args.self.now.host in
    let t = g.H.Host.state c.read_again.new.self.host in
    let unread = c.in-Some.ensures.unread in
    λ open_before. unread_moments (λ (h : Held). IsAmidRun c.args.names.items h) before s t c.in-Some.report.units.items c.in-Some.report.last unread

pub returns-in-Some-clause-loss : goal.returns-in-Some-clause-loss
returns-in-Some-clause-loss g c =
    let before = held_by c.args.self.now.administration c.args.self.now.diversions in
    let s = g.H.Host.state c.args.self.now.host in
    let t = g.H.Host.state c.read_again.new.self.host in
    let unread = c.in-Some.ensures.unread in
    λ open_before. loses_like _ _ _ (g.H.Host.settled c.read_again.new.self.host) (unread_moments (λ (h : Held). IsAmidRun c.args.names.items h) before s t c.in-Some.report.units.items c.in-Some.report.last unread)

pub returns-in-Some-clause-stands : goal.returns-in-Some-clause-stands
returns-in-Some-clause-stands g c =
    let before = held_by c.args.self.now.administration c.args.self.now.diversions in
    let s = g.H.Host.state c.args.self.now.host in
    let t = g.H.Host.state c.read_again.new.self.host in
    let unread = c.in-Some.ensures.unread in
    λ open_before none. absurd (unread_last c.in-Some.report.units.items c.in-Some.report.last s t unread none)

pub returns-in-Some-clause-answered : goal.returns-in-Some-clause-answered
returns-in-Some-clause-answered g c =
    let before = held_by c.args.self.now.administration c.args.self.now.diversions in
    let s = g.H.Host.state c.args.self.now.host in
    let t = g.H.Host.state c.read_again.new.self.host in
    let unread = c.in-Some.ensures.unread in
    λ open_before none. absurd (unread_last c.in-Some.report.units.items c.in-Some.report.last s t unread none)

pub returns-in-Some-clause-closes : goal.returns-in-Some-clause-closes
returns-in-Some-clause-closes g c =
    let before = held_by c.args.self.now.administration c.args.self.now.diversions in
    let s = g.H.Host.state c.args.self.now.host in
    let t = g.H.Host.state c.read_again.new.self.host in
    let unread = c.in-Some.ensures.unread in
    unread_closes c.in-Some.report.units.items c.in-Some.report.last s t _ unread (c.read_again.ensures.closes) c.in-Some.is

pub returns-in-Some-clause-honest : goal.returns-in-Some-clause-honest
returns-in-Some-clause-honest g c =
    let before = held_by c.args.self.now.administration c.args.self.now.diversions in
    let s = g.H.Host.state c.args.self.now.host in
    let t = g.H.Host.state c.read_again.new.self.host in
    let unread = c.in-Some.ensures.unread in
    unread.reads.honest

pub returns-in-Some-clause-watched : goal.returns-in-Some-clause-watched
returns-in-Some-clause-watched g c =
    let before = held_by c.args.self.now.administration c.args.self.now.diversions in
    let s = g.H.Host.state c.args.self.now.host in
    let t = g.H.Host.state c.read_again.new.self.host in
    let unread = c.in-Some.ensures.unread in
    unread_watched g.W.Watcher.tells s t c.args.watcher.now c.in-Some.report.units.items c.in-Some.report.last unread

pub returns-in-Some-clause-abandoned : goal.returns-in-Some-clause-abandoned
returns-in-Some-clause-abandoned g c = λ open_before. never_abandoned c.in-Some.report.last _ c.in-Some.ensures.not_abandoned
