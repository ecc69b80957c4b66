use Rattle.std.proofs.Common.{◌≡◌, Err, IsTrue, sym, subst}
use Rattle.host_core.specs.World.{SyncAll}
use Rattle.host_core.specs.Host.{Does}
use Rattle.host_core.proofs.Moments.{since_then, since_weaker_if, declined_world}
use Rattle.package_files.specs.Laid.{CanUndo, Undoes, IsUndoing}
use Rattle.package_files.proofs.BackLists.{undoing_none}
use Rattle.package_files.proofs.WriteMoments.{since_synced}
use Rattle.package_files.proofs.writing.sync_all.Goals as goal

pub take_back-requires-clause-under_way : goal.take_back-requires-clause-under_way
take_back-requires-clause-under_way g c = λ h.
    subst (CanUndo c.args.works.now) (sym (declined_world SyncAll _ _ (subst (λ f. Does {T = Unit {0}} SyncAll (g.H.Host.state c.args.host.now) (g.H.Host.state c.sync_written.new.self) (Err f)) c.in-Err-Declined.field-0-is c.in-Err-Declined.ensures.does) h)) (c.requires.prepared (c.sync_written.ensures.silent.honest h))

pub returns-in_ok-take_back-in-Err-Declined-clause-undone : goal.returns-in_ok-take_back-in-Err-Declined-clause-undone
returns-in_ok-take_back-in-Err-Declined-clause-undone g c = λ h e.
    let h1 = c.take_back.ensures.silent.honest h in
    subst (λ v. Undoes c.args.works.now v (g.H.Host.state c.take_back.new.host).world) (declined_world SyncAll _ _ (subst (λ f. Does {T = Unit {0}} SyncAll (g.H.Host.state c.args.host.now) (g.H.Host.state c.sync_written.new.self) (Err f)) c.in-Err-Declined.field-0-is c.in-Err-Declined.ensures.does) h1) (c.in_ok-take_back-in-Err-Declined.ensures.back h)

pub returns-in_err-take_back-in-Err-Declined-clause-any_moment : goal.returns-in_err-take_back-in-Err-Declined-clause-any_moment
returns-in_err-take_back-in-Err-Declined-clause-any_moment g c =
    let works = c.args.works.now in
    let old = g.H.Host.state c.args.host.now in
    let mid = g.H.Host.state c.sync_written.new.self in
    let new = g.H.Host.state c.take_back.new.host in
    let P = IsUndoing works old.world in
    let same : IsTrue mid.honest → mid.world ≡ old.world = λ h. declined_world SyncAll old mid (subst (λ f. Does {T = Unit {0}} SyncAll (g.H.Host.state c.args.host.now) (g.H.Host.state c.sync_written.new.self) (Err f)) c.in-Err-Declined.field-0-is c.in-Err-Declined.ensures.does) h in
    since_then (λ so_far. P) old mid new (since_synced c.sync_written.result P old mid (undoing_none works old.world) c.sync_written.ensures.does)
    (since_weaker_if (λ so_far. IsUndoing works mid.world) (λ so_far. P) mid new
    (λ h so_far w undoing. subst (λ v. IsUndoing works v w) (same (c.take_back.ensures.silent.honest h)) undoing) c.take_back.ensures.any_moment)

pub returns-in_ok-take_back-in-Err-Declined-clause-any_moment : goal.returns-in_ok-take_back-in-Err-Declined-clause-any_moment
returns-in_ok-take_back-in-Err-Declined-clause-any_moment g c =
    let works = c.args.works.now in
    let old = g.H.Host.state c.args.host.now in
    let mid = g.H.Host.state c.sync_written.new.self in
    let new = g.H.Host.state c.take_back.new.host in
    let P = IsUndoing works old.world in
    let same : IsTrue mid.honest → mid.world ≡ old.world = λ h. declined_world SyncAll old mid (subst (λ f. Does {T = Unit {0}} SyncAll (g.H.Host.state c.args.host.now) (g.H.Host.state c.sync_written.new.self) (Err f)) c.in-Err-Declined.field-0-is c.in-Err-Declined.ensures.does) h in
    since_then (λ so_far. P) old mid new (since_synced c.sync_written.result P old mid (undoing_none works old.world) c.sync_written.ensures.does)
    (since_weaker_if (λ so_far. IsUndoing works mid.world) (λ so_far. P) mid new
    (λ h so_far w undoing. subst (λ v. IsUndoing works v w) (same (c.take_back.ensures.silent.honest h)) undoing) c.take_back.ensures.any_moment)

pub returns-in-Ok-clause-any_moment : goal.returns-in-Ok-clause-any_moment
returns-in-Ok-clause-any_moment g c =
    let works = c.args.works.now in
    let old = g.H.Host.state c.args.host.now in
    since_synced c.sync_written.result (IsUndoing works old.world) old _ (undoing_none works old.world) c.sync_written.ensures.does

pub returns-in-Err-Device-clause-any_moment : goal.returns-in-Err-Device-clause-any_moment
returns-in-Err-Device-clause-any_moment g c =
    let works = c.args.works.now in
    let old = g.H.Host.state c.args.host.now in
    since_synced c.sync_written.result (IsUndoing works old.world) old _ (undoing_none works old.world) c.sync_written.ensures.does

pub returns-in-Err-NoMemory-clause-any_moment : goal.returns-in-Err-NoMemory-clause-any_moment
returns-in-Err-NoMemory-clause-any_moment g c =
    let works = c.args.works.now in
    let old = g.H.Host.state c.args.host.now in
    since_synced c.sync_written.result (IsUndoing works old.world) old _ (undoing_none works old.world) c.sync_written.ensures.does
