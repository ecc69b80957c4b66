use Rattle.std.proofs.Common.{rules}
use Rattle.host_core.proofs.Counted.{no_fault_then}
use Rattle.host_core.proofs.Moments.{reads_then, silent_then}
use Rattle.trigger_watch.specs.Hits.{hits_by}
use Rattle.trigger_watch.proofs.More.{one_more}
use Rattle.trigger_watch.proofs.hits.add_hits.Goals as goal

pub returns-in_err-hits-clause-reads : goal.returns-in_err-hits-clause-reads
returns-in_err-hits-clause-reads g c = reads_then _ _ _ c.loop-package.invariant.reads c.hits_by.ensures.looks.reads

pub returns-in_err-push-clause-reads : goal.returns-in_err-push-clause-reads
returns-in_err-push-clause-reads g c = reads_then _ _ _ c.loop-package.invariant.reads c.hits_by.ensures.looks.reads

pub loop-package-preserved : goal.loop-package-preserved
loop-package-preserved g c =
    let inv = c.loop-package.invariant in
    let looks = c.hits_by.ensures.looks in
    record {
      so_far = λ honest. one_more (λ w name. hits_by w c.args.lists.now.lists c.args.by_files c.args.interests.now name) (g.H.Host.state c.args.host.now).world _ c.args.packages.now
          c.loop-package.package-index c.package-item.result c.in_ok-hits.hits c.args.found.now.items c.loop-package.found.items c.push.new.self.items inv.reads.world c.loop-package-test.true c.package-item.is
          (inv.so_far (looks.reads.honest honest)) (c.in_ok-hits.ensures.looks.found honest) (search rules);
      reads = reads_then _ _ _ inv.reads looks.reads;
      silent = silent_then _ _ _ inv.silent looks.silent;
      faults_same = no_fault_then _ _ _ inv.faults_same c.in_ok-hits.ensures.looks.counts;
    }
