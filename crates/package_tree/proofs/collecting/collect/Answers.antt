use Rattle.std.proofs.Common.{◌≡◌, sym, subst, inl, inr, rules, arith}
use Rattle.host_core.proofs.Moments.{reads_then}
use Rattle.host_core.specs.Paths.{Path}
use Rattle.package_tree.specs.ShipMap.{HasBefore, IsLarge, IsTooLarge}
use Rattle.package_tree.specs.Shipped.{IsFirstPath}
use Rattle.package_tree.proofs.Collected.{first_at_index, large_told, many_before, small_told, pushed_told, paths_more, nodes_more, small_more, all_collected}
use Rattle.package_tree.proofs.collecting.collect.Goals as goal

pub returns-then-index-ge-MOST_PATHS-clause-looks : goal.returns-then-index-ge-MOST_PATHS-clause-looks
returns-then-index-ge-MOST_PATHS-clause-looks g c = record {
  found = λ h.
      let w = (g.H.Host.state c.args.host.now).world in
      let so_far = c.loop-index.invariant in
      let are = c.requires.shipped (so_far.silent.honest h) in
      let same : c.loop-index.index ≡ 65536 = omega (arith, so_far.few, c.if-index-ge-MOST_PATHS.true) in
      subst (λ (p : Path). IsFirstPath (IsTooLarge w) p × HasBefore 65536 w p) (sym c.in_ok-copy.ensures) (
        first_at_index w c.args.paths.now c.loop-index.index c.index-paths-index.result 65536 are c.loop-index-test.true c.index-paths-index.is (so_far.small h) so_far.few (inr same),
        many_before w c.args.paths.now c.loop-index.index c.index-paths-index.result 65536 are c.loop-index-test.true c.index-paths-index.is same,
      );
  reads = search (rules, reads_then);
  silent = search rules;
  counts = search rules;
}

pub returns-then-branch-clause-looks : goal.returns-then-branch-clause-looks
returns-then-branch-clause-looks g c = record {
  found = λ h.
      let w = (g.H.Host.state c.args.host.now).world in
      let so_far = c.loop-index.invariant in
      let mid = c.add.ensures.looks.silent.honest h in
      let path = c.index-paths-index.result in
      let large = large_told w (g.H.Host.state c.loop-index.host).world path c.in_ok-add.field-0 c.loop-index.files.items c.add.new.files.items so_far.reads.world c.if-branch.true (c.in_ok-add.ensures.looks.found h) in
      subst (λ (p : Path). IsFirstPath (IsTooLarge w) p × IsLarge (w p)) (sym c.in_ok-copy-2.ensures) (
        first_at_index w c.args.paths.now c.loop-index.index path 65536 (c.requires.shipped (so_far.silent.honest mid)) c.loop-index-test.true c.index-paths-index.is (so_far.small mid) so_far.few (inl large),
        large,
      );
  reads = search (rules, reads_then);
  silent = search rules;
  counts = search rules;
}

pub loop-index-preserved : goal.loop-index-preserved
loop-index-preserved g c =
    let w = (g.H.Host.state c.args.host.now).world in
    let v = (g.H.Host.state c.loop-index.host).world in
    let so_far = c.loop-index.invariant in
    let path = c.index-paths-index.result in
    let old = c.loop-index.files.items in
    let new = c.add.new.files.items in
    let pushed = pushed_told path c.in_ok-add.field-0 old new c.if-branch.false c.in_ok-add.ensures.added in
    record {
      paths = paths_more c.args.paths.now c.loop-index.index path pushed.0 old new c.loop-index-test.true c.index-paths-index.is so_far.paths pushed.1;
      few = omega (arith, c.if-index-ge-MOST_PATHS.false);
      nodes = λ h.
          (let told = small_told w v path c.in_ok-add.field-0 old new so_far.reads.world c.if-branch.false (c.in_ok-add.ensures.looks.found h) in
          nodes_more w path told.1.0 old new (so_far.nodes (c.add.ensures.looks.silent.honest h)) told.1.1 told.1.2);
      small = λ h.
          (let told = small_told w v path c.in_ok-add.field-0 old new so_far.reads.world c.if-branch.false (c.in_ok-add.ensures.looks.found h) in
          small_more w c.args.paths.now c.loop-index.index path c.loop-index-test.true c.index-paths-index.is (so_far.small (c.add.ensures.looks.silent.honest h)) told.0);
      reads = reads_then _ _ _ so_far.reads c.add.ensures.looks.reads;
      silent = search rules;
      counts = search rules;
    }

pub returns-clause-looks : goal.returns-clause-looks
returns-clause-looks g c = record {
  found = λ h.
      let so_far = c.loop-index.invariant in
      all_collected (g.H.Host.state c.args.host.now).world c.args.paths.now c.loop-index.index c.loop-index.files.items 65536 (c.requires.shipped (so_far.silent.honest h)) c.loop-index-test.false so_far.few so_far.paths (so_far.nodes h) (so_far.small h);
  reads = search (rules, reads_then);
  silent = search rules;
  counts = search rules;
}
