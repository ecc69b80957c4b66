use Rattle.std.proofs.Common.{IsTrue, sym, subst}
use Rattle.std.specs.Prelude.{MatchOption}
use Rattle.std.proofs.lemmas.Result.{IfOk-weaker}
use Rattle.host_core.proofs.Moments.{since_then, since_weaker_if}
use Rattle.package_files.specs.Files.{IsAmid, Undone, Written}
use Rattle.package_files.specs.Laid.{AreCommitting, CommitsAll, IsPreparedFrom, IsUnderWayFrom, IsUndoing, Prepared}
use Rattle.package_files.proofs.Undoing.{undone_from, undoing_from, under_way_prepared}
use Rattle.package_files.proofs.PartWay.{committed_all}
use Rattle.package_files.proofs.writing.write_files.Goals as goal

pub sync_all-requires-clause-prepared : goal.sync_all-requires-clause-prepared
sync_all-requires-clause-prepared g c = λ h.
    let works = c.args.works.now in
    let old = g.H.Host.state c.args.host.now in
    let one = g.H.Host.state c.prepare_all.new.host in
    let prepared : IsTrue one.honest → Prepared works old.world one.world = λ h. subst (λ d. MatchOption d (Prepared works old.world one.world) (λ k. Undone works old.world one.world)) c.in_default.is (c.in_ok-index.ensures.prepared h) in
    let from : IsTrue one.honest → IsUnderWayFrom works old.world one.world = λ h. let h0 = c.prepare_all.ensures.silent.honest h in under_way_prepared works old.world one.world (c.requires.free h0) (c.requires.seen h0) (prepared h) in
    (old.world, from h)

pub returns-in_err-sync_all-clause-any_moment : goal.returns-in_err-sync_all-clause-any_moment
returns-in_err-sync_all-clause-any_moment g c =
    let works = c.args.works.now in
    let old = g.H.Host.state c.args.host.now in
    let one = g.H.Host.state c.prepare_all.new.host in
    let prepared : IsTrue one.honest → Prepared works old.world one.world = λ h. subst (λ d. MatchOption d (Prepared works old.world one.world) (λ k. Undone works old.world one.world)) c.in_default.is (c.in_ok-index.ensures.prepared h) in
    let from : IsTrue one.honest → IsUnderWayFrom works old.world one.world = λ h. let h0 = c.prepare_all.ensures.silent.honest h in under_way_prepared works old.world one.world (c.requires.free h0) (c.requires.seen h0) (prepared h) in
    let two = g.H.Host.state c.sync_all.new.host in
    let P = IsAmid works old.world old.world in
    let first = since_then (λ so_far. P) old one two c.prepare_all.ensures.any_moment
    (since_weaker_if (λ so_far. IsUndoing works one.world) (λ so_far. P) one two
    (λ h so_far w undoing. let h1 = c.sync_all.ensures.silent.honest h in undoing_from works old.world one.world (from h1) (prepared h1).rest w undoing) c.sync_all.ensures.any_moment) in
    first

pub returns-then-not-branch-clause-written : goal.returns-then-not-branch-clause-written
returns-then-not-branch-clause-written g c = λ h.
    let works = c.args.works.now in
    let old = g.H.Host.state c.args.host.now in
    let one = g.H.Host.state c.prepare_all.new.host in
    let prepared : IsTrue one.honest → Prepared works old.world one.world = λ h. subst (λ d. MatchOption d (Prepared works old.world one.world) (λ k. Undone works old.world one.world)) c.in_default.is (c.in_ok-index.ensures.prepared h) in
    let from : IsTrue one.honest → IsUnderWayFrom works old.world one.world = λ h. let h0 = c.prepare_all.ensures.silent.honest h in under_way_prepared works old.world one.world (c.requires.free h0) (c.requires.seen h0) (prepared h) in
    let two = g.H.Host.state c.sync_all.new.host in
    let h1 = c.sync_all.ensures.silent.honest h in
    undone_from works old.world one.world (from h1) (prepared h1).rest two.world (c.in_ok-sync_all.ensures.undone h c.if-not-branch.true)

pub returns-then-not-branch-clause-any_moment : goal.returns-then-not-branch-clause-any_moment
returns-then-not-branch-clause-any_moment g c =
    let works = c.args.works.now in
    let old = g.H.Host.state c.args.host.now in
    let one = g.H.Host.state c.prepare_all.new.host in
    let prepared : IsTrue one.honest → Prepared works old.world one.world = λ h. subst (λ d. MatchOption d (Prepared works old.world one.world) (λ k. Undone works old.world one.world)) c.in_default.is (c.in_ok-index.ensures.prepared h) in
    let from : IsTrue one.honest → IsUnderWayFrom works old.world one.world = λ h. let h0 = c.prepare_all.ensures.silent.honest h in under_way_prepared works old.world one.world (c.requires.free h0) (c.requires.seen h0) (prepared h) in
    let two = g.H.Host.state c.sync_all.new.host in
    let P = IsAmid works old.world old.world in
    let first = since_then (λ so_far. P) old one two c.prepare_all.ensures.any_moment
    (since_weaker_if (λ so_far. IsUndoing works one.world) (λ so_far. P) one two
    (λ h so_far w undoing. let h1 = c.sync_all.ensures.silent.honest h in undoing_from works old.world one.world (from h1) (prepared h1).rest w undoing) c.sync_all.ensures.any_moment) in
    first

pub returns-clause-written : goal.returns-clause-written
returns-clause-written g c = λ h.
    let works = c.args.works.now in
    let old = g.H.Host.state c.args.host.now in
    let one = g.H.Host.state c.prepare_all.new.host in
    let prepared : IsTrue one.honest → Prepared works old.world one.world = λ h. subst (λ d. MatchOption d (Prepared works old.world one.world) (λ k. Undone works old.world one.world)) c.in_default.is (c.in_ok-index.ensures.prepared h) in
    let from : IsTrue one.honest → IsUnderWayFrom works old.world one.world = λ h. let h0 = c.prepare_all.ensures.silent.honest h in under_way_prepared works old.world one.world (c.requires.free h0) (c.requires.seen h0) (prepared h) in
    let two = g.H.Host.state c.sync_all.new.host in
    let new = g.H.Host.state c.commit_all.new.host in
    let stands : IsTrue two.honest → IsPreparedFrom works old.world two.world = λ h.
    let h1 = c.sync_all.ensures.silent.honest h in
    let h0 = c.prepare_all.ensures.silent.honest h1 in
    record { free = c.requires.free h0; seen = c.requires.seen h0; prepared = subst (Prepared works old.world) (sym (c.in_ok-sync_all.ensures.stays h c.if-not-branch.false)) (prepared h1) } in
    IfOk-weaker c.commit_all.result (λ d. CommitsAll d works two.world new.world) (λ d. MatchOption d (Written works old.world new.world) (λ k. Undone works old.world new.world))
    (λ d commits. committed_all d works old.world two.world new.world (stands (c.commit_all.ensures.silent.honest h)) commits) (c.commit_all.ensures.committed h)

pub returns-clause-any_moment : goal.returns-clause-any_moment
returns-clause-any_moment g c =
    let works = c.args.works.now in
    let old = g.H.Host.state c.args.host.now in
    let one = g.H.Host.state c.prepare_all.new.host in
    let prepared : IsTrue one.honest → Prepared works old.world one.world = λ h. subst (λ d. MatchOption d (Prepared works old.world one.world) (λ k. Undone works old.world one.world)) c.in_default.is (c.in_ok-index.ensures.prepared h) in
    let from : IsTrue one.honest → IsUnderWayFrom works old.world one.world = λ h. let h0 = c.prepare_all.ensures.silent.honest h in under_way_prepared works old.world one.world (c.requires.free h0) (c.requires.seen h0) (prepared h) in
    let two = g.H.Host.state c.sync_all.new.host in
    let new = g.H.Host.state c.commit_all.new.host in
    let stands : IsTrue two.honest → IsPreparedFrom works old.world two.world = λ h.
    let h1 = c.sync_all.ensures.silent.honest h in
    let h0 = c.prepare_all.ensures.silent.honest h1 in
    record { free = c.requires.free h0; seen = c.requires.seen h0; prepared = subst (Prepared works old.world) (sym (c.in_ok-sync_all.ensures.stays h c.if-not-branch.false)) (prepared h1) } in
    let P = IsAmid works old.world old.world in
    let first = since_then (λ so_far. P) old one two c.prepare_all.ensures.any_moment
    (since_weaker_if (λ so_far. IsUndoing works one.world) (λ so_far. P) one two
    (λ h so_far w undoing. let h1 = c.sync_all.ensures.silent.honest h in undoing_from works old.world one.world (from h1) (prepared h1).rest w undoing) c.sync_all.ensures.any_moment) in
    since_then (λ so_far. P) old two new first
    (since_weaker_if (λ so_far. AreCommitting works two.world) (λ so_far. P) two new
    (λ h so_far w committing. committing old.world (stands (c.commit_all.ensures.silent.honest h))) c.commit_all.ensures.any_moment)

pub commit_all-requires-clause-prepared : goal.commit_all-requires-clause-prepared
commit_all-requires-clause-prepared g c = λ h.
    let works = c.args.works.now in
    let old = g.H.Host.state c.args.host.now in
    let one = g.H.Host.state c.prepare_all.new.host in
    let prepared : IsTrue one.honest → Prepared works old.world one.world = λ h. subst (λ d. MatchOption d (Prepared works old.world one.world) (λ k. Undone works old.world one.world)) c.in_default.is (c.in_ok-index.ensures.prepared h) in
    let from : IsTrue one.honest → IsUnderWayFrom works old.world one.world = λ h. let h0 = c.prepare_all.ensures.silent.honest h in under_way_prepared works old.world one.world (c.requires.free h0) (c.requires.seen h0) (prepared h) in
    let two = g.H.Host.state c.sync_all.new.host in
    let stands : IsTrue two.honest → IsPreparedFrom works old.world two.world = λ h.
    let h1 = c.sync_all.ensures.silent.honest h in
    let h0 = c.prepare_all.ensures.silent.honest h1 in
    record { free = c.requires.free h0; seen = c.requires.seen h0; prepared = subst (Prepared works old.world) (sym (c.in_ok-sync_all.ensures.stays h c.if-not-branch.false)) (prepared h1) } in
    (old.world, stands h)
