use Rattle.std.proofs.Common.{List, subst}
use Rattle.host_core.proofs.Moments.{reads_then}
use Rattle.file_lists.specs.Followed.{AreWhole}
use Rattle.package_tree.specs.declared.shipped.Shipped.{Shipped}
use Rattle.host_overlay.specs.Seen.{seen}
use Rattle.verification.specs.Shipped.{looked_paths}
use Rattle.verification.proofs.Counted.{counts_then}
use Rattle.verification.proofs.Followed.{compared_behind, followed_more}
use Rattle.verification.proofs.comparing.compare_read.Goals as goal

pub returns-clause-told : goal.returns-clause-told
returns-clause-told g c =
    let all = c.args.all.now.opened in
    let sight = seen c.args.all.now.shown in
    let table = all.database.records in
    let s = g.H.Host.state c.args.host.now in
    let m = g.H.Host.state c.follow_files.new.host in
    let t = g.H.Host.state c.compare_files.new.host in
    let p = c.args.incoming.now in
    compared_behind p table all.lists.lists c.follow_files.new.diversions.ways sight s m t c.compare_files.result c.in_ok-follow_files.ensures.counts
    (followed_more table all.lists.lists sight all.diversions c.follow_files.new.diversions (looked_paths p.files) s m t c.follow_files.ensures.reads c.compare_files.ensures.reads c.follow_files.ensures.grows
    (λ h each. subst (λ (files : List Shipped). AreWhole s.world (looked_paths files) c.follow_files.new.diversions.ways.aliases) c.as_slice.ensures (c.in_ok-follow_files.ensures.whole h each)) c.requires) c.compare_files.ensures.added

pub returns-clause-reads : goal.returns-clause-reads
returns-clause-reads g c = reads_then _ _ _ c.follow_files.ensures.reads c.compare_files.ensures.reads

pub returns-clause-counts : goal.returns-clause-counts
returns-clause-counts g c = counts_then c.compare_files.result (g.H.Host.state c.args.host.now) (g.H.Host.state c.follow_files.new.host) (g.H.Host.state c.compare_files.new.host) c.follow_files.ensures.reads c.compare_files.ensures.counts
