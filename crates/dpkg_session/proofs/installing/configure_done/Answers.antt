use Rattle.std.proofs.Common.{ap, inl, inr, subst, sym, ◌∙◌}
use Rattle.std.specs.Prelude.{IfSome}
use Rattle.configure_run.specs.Run.{HasRun, IsAmidRun, IsConfigureRun}
use Rattle.held_administration.specs.Order.{IsInOrder}
use Rattle.held_administration.specs.declared.held.Administration.{Administration}
use Rattle.host_core.specs.Host.{State}
use Rattle.host_core.specs.World.{World}
use Rattle.recorded_packages.specs.Packages.{ArePackagesOf}
use Rattle.unit_reports.specs.Held.{Held, held_by}
use Rattle.unit_reports.proofs.Counting.{last_from}
use Rattle.dpkg_session.specs.Installs.{names_done}
use Rattle.dpkg_session.proofs.Again.{behind, behind_answered, behind_moments, behind_told, behind_watched, never_abandoned, unread_last, unread_moments, unread_told, unread_watched}
use Rattle.dpkg_session.proofs.installing.configure_done.Goals as goal

pub configure_done_read-requires-clause-order : goal.configure_done_read-requires-clause-order
configure_done_read-requires-clause-order g c = λ h.
    let read = c.in-None.ensures.read in
    subst (λ (a : Administration). IsInOrder a.database a.lists.lists (g.H.Host.state c.read_before.new.host).world) (sym c.read_before.ensures.same)
    (subst (λ (w : World). IsInOrder c.args.administration.now.database c.args.administration.now.lists.lists w) (sym read.reads.world) (c.requires.order (read.reads.honest h)))

pub configure_done_read-requires-clause-indexed : goal.configure_done_read-requires-clause-indexed
configure_done_read-requires-clause-indexed g c = subst (λ (a : Administration). IfSome a.packages (ArePackagesOf a.database.records)) (sym c.read_before.ensures.same) c.requires.indexed

pub returns-in-None-clause-whole : goal.returns-in-None-clause-whole
returns-in-None-clause-whole g c =
    let before = held_by c.args.administration.now c.args.diversions.now in
    let mid = held_by c.read_before.new.administration c.read_before.new.diversions in
    let ways = c.read_before.new.diversions.ways in
    let s = g.H.Host.state c.args.host.now in
    let m = g.H.Host.state c.read_before.new.host in
    let t = g.H.Host.state c.configure_done_read.new.host in
    let done = c.configure_done_read.ensures in
    let read = c.in-None.ensures.read in
    λ none. behind (λ (h : Held) (x : State). IsConfigureRun (names_done c.args.labels.now c.args.units.now) c.args.options c.configure_done_read.result.units.items h (held_by c.configure_done_read.new.administration c.read_before.new.diversions) x t) before mid ways s m read c.read_before.ensures.held (done.whole none)

pub returns-in-None-clause-part : goal.returns-in-None-clause-part
returns-in-None-clause-part g c =
    let before = held_by c.args.administration.now c.args.diversions.now in
    let mid = held_by c.read_before.new.administration c.read_before.new.diversions in
    let ways = c.read_before.new.diversions.ways in
    let s = g.H.Host.state c.args.host.now in
    let m = g.H.Host.state c.read_before.new.host in
    let t = g.H.Host.state c.configure_done_read.new.host in
    let done = c.configure_done_read.ensures in
    let read = c.in-None.ensures.read in
    inr (behind (λ (h : Held) (x : State). HasRun (names_done c.args.labels.now c.args.units.now) c.args.options c.configure_done_read.result.units.items c.configure_done_read.result.last h x t) before mid ways s m read c.read_before.ensures.held done.part)

pub returns-in-None-clause-told : goal.returns-in-None-clause-told
returns-in-None-clause-told g c =
    let before = held_by c.args.administration.now c.args.diversions.now in
    let mid = held_by c.read_before.new.administration c.read_before.new.diversions in
    let ways = c.read_before.new.diversions.ways in
    let s = g.H.Host.state c.args.host.now in
    let m = g.H.Host.state c.read_before.new.host in
    let t = g.H.Host.state c.configure_done_read.new.host in
    let done = c.configure_done_read.ensures in
    let read = c.in-None.ensures.read in
    behind_told before ways s m t c.configure_done_read.result read done.told

pub returns-in-None-clause-any_moment : goal.returns-in-None-clause-any_moment
returns-in-None-clause-any_moment g c =
    let before = held_by c.args.administration.now c.args.diversions.now in
    let mid = held_by c.read_before.new.administration c.read_before.new.diversions in
    let ways = c.read_before.new.diversions.ways in
    let s = g.H.Host.state c.args.host.now in
    let m = g.H.Host.state c.read_before.new.host in
    let t = g.H.Host.state c.configure_done_read.new.host in
    let done = c.configure_done_read.ensures in
    let read = c.in-None.ensures.read in
    behind_moments (λ (h : Held). IsAmidRun (names_done c.args.labels.now c.args.units.now) c.args.options h) before mid ways s m t read c.read_before.ensures.held done.any_moment

pub returns-in-None-clause-answered : goal.returns-in-None-clause-answered
returns-in-None-clause-answered g c =
    let before = held_by c.args.administration.now c.args.diversions.now in
    let mid = held_by c.read_before.new.administration c.read_before.new.diversions in
    let ways = c.read_before.new.diversions.ways in
    let s = g.H.Host.state c.args.host.now in
    let m = g.H.Host.state c.read_before.new.host in
    let t = g.H.Host.state c.configure_done_read.new.host in
    let done = c.configure_done_read.ensures in
    let read = c.in-None.ensures.read in
    λ none. behind_answered before ways s m t read (done.answered none)

pub returns-in-None-clause-counts : goal.returns-in-None-clause-counts
returns-in-None-clause-counts g c =
    let before = held_by c.args.administration.now c.args.diversions.now in
    let mid = held_by c.read_before.new.administration c.read_before.new.diversions in
    let ways = c.read_before.new.diversions.ways in
    let s = g.H.Host.state c.args.host.now in
    let m = g.H.Host.state c.read_before.new.host in
    let t = g.H.Host.state c.configure_done_read.new.host in
    let done = c.configure_done_read.ensures in
    let read = c.in-None.ensures.read in
    last_from c.configure_done_read.result.last s m t read.faults done.counts

pub returns-in-None-clause-watched : goal.returns-in-None-clause-watched
returns-in-None-clause-watched g c =
    let before = held_by c.args.administration.now c.args.diversions.now in
    let mid = held_by c.read_before.new.administration c.read_before.new.diversions in
    let ways = c.read_before.new.diversions.ways in
    let s = g.H.Host.state c.args.host.now in
    let m = g.H.Host.state c.read_before.new.host in
    let t = g.H.Host.state c.configure_done_read.new.host in
    let done = c.configure_done_read.ensures in
    let read = c.in-None.ensures.read in
    behind_watched g.W.Watcher.tells before ways s m c.args.watcher.now c.configure_done_read.new.watcher c.configure_done_read.result.units.items read done.watched

pub returns-in-Some-clause-whole : goal.returns-in-Some-clause-whole
returns-in-Some-clause-whole g c =
    let before = held_by c.args.administration.now c.args.diversions.now in
    let s = g.H.Host.state c.args.host.now in
    let t = g.H.Host.state c.read_before.new.host in
    let unread = c.in-Some.ensures.unread in
    λ none. absurd (unread_last c.in-Some.report.units.items c.in-Some.report.last s t unread none)

pub returns-in-Some-clause-answered : goal.returns-in-Some-clause-answered
returns-in-Some-clause-answered g c =
    let before = held_by c.args.administration.now c.args.diversions.now in
    let s = g.H.Host.state c.args.host.now in
    let t = g.H.Host.state c.read_before.new.host in
    let unread = c.in-Some.ensures.unread in
    λ none. absurd (unread_last c.in-Some.report.units.items c.in-Some.report.last s t unread none)

pub returns-in-Some-clause-order : goal.returns-in-Some-clause-order
returns-in-Some-clause-order g c =
    let before = held_by c.args.administration.now c.args.diversions.now in
    let s = g.H.Host.state c.args.host.now in
    let t = g.H.Host.state c.read_before.new.host in
    let unread = c.in-Some.ensures.unread in
    λ none. absurd (unread_last c.in-Some.report.units.items c.in-Some.report.last s t unread none)

pub returns-in-Some-clause-open : goal.returns-in-Some-clause-open
returns-in-Some-clause-open g c =
    let before = held_by c.args.administration.now c.args.diversions.now in
    let s = g.H.Host.state c.args.host.now in
    let t = g.H.Host.state c.read_before.new.host in
    let unread = c.in-Some.ensures.unread in
    λ none. absurd (unread_last c.in-Some.report.units.items c.in-Some.report.last s t unread none)

pub returns-in-Some-clause-indexed : goal.returns-in-Some-clause-indexed
returns-in-Some-clause-indexed g c =
    let before = held_by c.args.administration.now c.args.diversions.now in
    let s = g.H.Host.state c.args.host.now in
    let t = g.H.Host.state c.read_before.new.host in
    let unread = c.in-Some.ensures.unread in
    λ none. absurd (unread_last c.in-Some.report.units.items c.in-Some.report.last s t unread none)

pub returns-in-Some-clause-part : goal.returns-in-Some-clause-part
returns-in-Some-clause-part g c =
    let before = held_by c.args.administration.now c.args.diversions.now in
    let s = g.H.Host.state c.args.host.now in
    let t = g.H.Host.state c.read_before.new.host in
    let unread = c.in-Some.ensures.unread in
    inl unread

pub returns-in-Some-clause-told : goal.returns-in-Some-clause-told
returns-in-Some-clause-told g c =
    let before = held_by c.args.administration.now c.args.diversions.now in
    let s = g.H.Host.state c.args.host.now in
    let t = g.H.Host.state c.read_before.new.host in
    let unread = c.in-Some.ensures.unread in
    unread_told c.in-Some.report s t unread

pub returns-in-Some-clause-any_moment : goal.returns-in-Some-clause-any_moment
returns-in-Some-clause-any_moment g c =
    let before = held_by c.args.administration.now c.args.diversions.now in
    let s = g.H.Host.state c.args.host.now in
    let t = g.H.Host.state c.read_before.new.host in
    let unread = c.in-Some.ensures.unread in
    unread_moments (λ (h : Held). IsAmidRun (names_done c.args.labels.now c.args.units.now) c.args.options h) before s t c.in-Some.report.units.items c.in-Some.report.last unread

pub returns-in-Some-clause-watched : goal.returns-in-Some-clause-watched
returns-in-Some-clause-watched g c =
    let before = held_by c.args.administration.now c.args.diversions.now in
    let s = g.H.Host.state c.args.host.now in
    let t = g.H.Host.state c.read_before.new.host in
    let unread = c.in-Some.ensures.unread in
    unread_watched g.W.Watcher.tells s t c.args.watcher.now c.in-Some.report.units.items c.in-Some.report.last unread

pub returns-in-Some-clause-abandoned : goal.returns-in-Some-clause-abandoned
returns-in-Some-clause-abandoned g c = never_abandoned c.in-Some.report.last _ c.in-Some.ensures.not_abandoned
