use Rattle.std.proofs.Common.{◌+◌, rules, subst}
use Rattle.host_core.specs.World.{World}
use Rattle.host_core.proofs.Moments.{reads_then}
use Rattle.package_tree.specs.ConffileFaults.{IsAstray}
use Rattle.package_tree.proofs.Astray.{none_more, told_true}
use Rattle.package_tree.proofs.Entries.{first_at}
use Rattle.package_tree.proofs.line_faults.first_astray.Goals as goal

pub returns-then-branch : goal.returns-then-branch
returns-then-branch g c = record {
  looks = record {
    found = λ h.
        let w = (g.H.Host.state c.args.host.now).world in
        let v = (g.H.Host.state c.loop-index.host).world in
        let entry = c.index-entries-index.result in
        let astray = subst (λ (x : World). IsAstray x entry) c.loop-index.invariant.reads.world (told_true c.in_ok-is_astray.field-0 (IsAstray v entry) (IsAstray v entry → ⊥) c.if-branch.true (c.in_ok-is_astray.ensures.looks.found h)) in
        (entry, c.loop-index.index + 1, first_at (IsAstray w) c.args.entries.now c.loop-index.index entry c.loop-index-test.true c.index-entries-index.is (c.loop-index.invariant.none (c.is_astray.ensures.looks.silent.honest h)) astray, c.in_ok-name_of.ensures);
    reads = search (rules, reads_then);
    silent = search rules;
    counts = search rules;
  };
}

pub loop-index-preserved : goal.loop-index-preserved
loop-index-preserved g c = record {
  none = λ h. none_more (g.H.Host.state c.args.host.now).world (g.H.Host.state c.loop-index.host).world c.args.entries.now c.loop-index.index c.index-entries-index.result c.in_ok-is_astray.field-0 c.loop-index-test.true c.index-entries-index.is
      c.loop-index.invariant.reads.world (c.loop-index.invariant.none (c.is_astray.ensures.looks.silent.honest h)) c.if-branch.false (c.in_ok-is_astray.ensures.looks.found h);
  reads = reads_then _ _ _ c.loop-index.invariant.reads c.is_astray.ensures.looks.reads;
  silent = search rules;
  counts = search rules;
}
