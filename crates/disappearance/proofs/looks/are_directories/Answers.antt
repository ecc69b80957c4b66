use Rattle.std.proofs.Common.{rules, sym, arith}
use Rattle.host_core.proofs.Moments.{reads_then, silent_then}
use Rattle.disappearance.proofs.Directories.{directories_all, directories_more, directories_stop}
use Rattle.disappearance.proofs.looks.are_directories.Goals as goal
use Rattle.host_core.proofs.Counted.{no_fault_then}

pub loop-path-preserved : goal.loop-path-preserved
loop-path-preserved g c =
    let before = c.loop-path.invariant in
    let w = (g.H.Host.state c.args.host.now).world in
    let v = (g.H.Host.state c.loop-path.host).world in
    record {
      found = λ h. directories_more c.args.diversions.now.ways c.args.name.now w c.args.paths.now c.loop-path.path-index c.path-item.result c.loop-path-test.true c.path-item.is v before.reads.world c.in_ok-stands.stands (c.in_ok-stands.ensures.looks.found h)
          c.if-not-stands.false (before.found (c.is_directory_at.ensures.looks.silent.honest h));
      reads = reads_then _ _ _ before.reads c.is_directory_at.ensures.looks.reads;
      silent = silent_then _ _ _ before.silent c.is_directory_at.ensures.looks.silent;
      counts = no_fault_then _ _ _ before.counts c.in_ok-stands.ensures.looks.counts;
    }

pub returns-then-not-stands : goal.returns-then-not-stands
returns-then-not-stands g c = record {
  looks = record {
    found = λ h.
        let before = c.loop-path.invariant in
        let w = (g.H.Host.state c.args.host.now).world in
        let v = (g.H.Host.state c.loop-path.host).world in
        sym (directories_stop c.args.diversions.now.ways c.args.name.now w c.args.paths.now c.loop-path.path-index c.path-item.result c.loop-path-test.true c.path-item.is v before.reads.world c.in_ok-stands.stands (c.in_ok-stands.ensures.looks.found h)
        c.if-not-stands.true);
    reads = search (rules, reads_then);
    silent = search rules;
    counts = search rules;
  };
}

pub returns : goal.returns
returns g c = record {
  looks = record {
    found = λ h.
        let w = (g.H.Host.state c.args.host.now).world in
        sym (directories_all c.args.diversions.now.ways c.args.name.now w c.args.paths.now c.loop-path.path-index (omega (arith, c.loop-path-test.false)) (c.loop-path.invariant.found h));
    reads = search (rules, reads_then);
    silent = search rules;
    counts = search rules;
  };
}
