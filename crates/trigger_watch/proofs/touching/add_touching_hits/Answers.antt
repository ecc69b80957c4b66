use Rattle.std.proofs.Common.{rules}
use Rattle.host_core.proofs.Counted.{no_fault_then}
use Rattle.host_core.proofs.Moments.{reads_then, silent_then}
use Rattle.trigger_watch.specs.Touches.{hits_at}
use Rattle.trigger_watch.proofs.More.{one_more}
use Rattle.trigger_watch.proofs.touching.add_touching_hits.Goals as goal

pub returns-in_err-hits-clause-reads : goal.returns-in_err-hits-clause-reads
returns-in_err-hits-clause-reads g c = reads_then _ _ _ c.loop-touch.invariant.reads c.hits_at.ensures.looks.reads

pub returns-in_err-push-clause-reads : goal.returns-in_err-push-clause-reads
returns-in_err-push-clause-reads g c = reads_then _ _ _ c.loop-touch.invariant.reads c.hits_at.ensures.looks.reads

pub loop-touch-preserved : goal.loop-touch-preserved
loop-touch-preserved g c =
    let inv = c.loop-touch.invariant in
    let looks = c.hits_at.ensures.looks in
    record {
      so_far = λ honest. one_more (λ w touch. hits_at w c.args.lists.now.lists c.args.by_files c.args.before.now c.args.interests.now touch) (g.H.Host.state c.args.host.now).world _ c.args.touches.now
          c.loop-touch.touch-index c.touch-item.result c.in_ok-hits.hits c.args.found.now.items c.loop-touch.found.items c.push.new.self.items inv.reads.world c.loop-touch-test.true c.touch-item.is
          (inv.so_far (looks.reads.honest honest)) (c.in_ok-hits.ensures.looks.found honest) (search rules);
      reads = reads_then _ _ _ inv.reads looks.reads;
      silent = silent_then _ _ _ inv.silent looks.silent;
      faults_same = no_fault_then _ _ _ inv.faults_same c.in_ok-hits.ensures.looks.counts;
    }
