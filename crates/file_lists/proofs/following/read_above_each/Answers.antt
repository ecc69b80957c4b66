use Rattle.std.proofs.Common.{◌≡◌, ◌∙◌, IsTrue, List, sym, ap, subst, arith, rules, Contains}
use Rattle.std.proofs.lemmas.List.{take_all}
use Rattle.host_core.specs.Paths.{Path}
use Rattle.host_core.specs.World.{World}
use Rattle.host_core.proofs.Moments.{reads_then, silent_then}
use Rattle.aliases.specs.Links.{above}
use Rattle.aliases.specs.Reading.{AreAliasesIn, IsWhole}
use Rattle.aliases.proofs.Beside.{whole_beside, whole_plain}
use Rattle.file_lists.proofs.Indexes.{each_more}
use Rattle.file_lists.proofs.Growing.{more_start, more_joined, whole_grown, aliases_grown, same_directory}
use Rattle.file_lists.proofs.following.read_above_each.Goals as goal
use Rattle.file_lists.proofs.following.read_above_each.Goals.{then-ne+in_ok-read_above, else-ne}

pub loop-path-init : goal.loop-path-init
loop-path-init g c =
    let s = g.H.Host.state c.args.host.now in
    record {
      text = search rules;
      settled = c.requires.settled;
      passed = c.requires.passed;
      grows = more_start s.honest s.world c.args.diversions.now;
      last = λ h each path is. whole_plain s.world c.args.diversions.now.ways.aliases path is;
      whole = λ h each path has. absurd (omega (arith, has.1));
      reads = search rules;
      silent = search rules;
      counts = search rules;
    }

pub returns-in_err-read_above-clause-reads : goal.returns-in_err-read_above-clause-reads
returns-in_err-read_above-clause-reads g c = reads_then _ _ _ c.loop-path.invariant.reads c.read_above.ensures.reads

pub loop-path-preserved : goal.loop-path-preserved
loop-path-preserved g c =
    let inv = c.loop-path.invariant in
    let w = (g.H.Host.state c.args.host.now).world in
    let before = g.H.Host.state c.loop-path.host in
    let old = c.args.diversions.now in
    let mid = c.loop-path.diversions in
    let item = c.path-item.result in
    let directory : c.directory_of-directory.result.now ≡ above item = c.directory_of-directory.ensures ∙ ap above c.as_str.ensures in
    elim c.if-ne.branch [
      | then-ne+in_ok-read_above b ↦
          let after = g.H.Host.state b.read_above.new.host in
          let new = b.read_above.new.diversions in
          let call = b.read_above.ensures in
          let there : IsTrue after.honest → AreAliasesIn w old.ways.aliases → AreAliasesIn before.world mid.ways.aliases = λ h each. subst (λ (v : World). AreAliasesIn v mid.ways.aliases) (sym inv.reads.world) (aliases_grown before.honest w old mid inv.grows (call.silent.honest h) each) in
          let here : IsTrue after.honest → AreAliasesIn w old.ways.aliases → IsWhole w item new.ways.aliases = λ h each. subst (λ (v : World). IsWhole v item new.ways.aliases) inv.reads.world (b.in_ok-read_above.ensures.whole h (there h each)) in
          record {
            text = rw b.last-is (search rules);
            settled = rw (b.host-is, b.diversions-is, b.passed-is) call.settled;
            passed = rw (b.host-is, b.diversions-is, b.passed-is) b.in_ok-read_above.ensures.passed;
            grows = rw (b.host-is, b.diversions-is) (more_joined before.honest after.honest w before.world old mid new call.silent.honest inv.reads.world inv.grows call.grows);
            last = rw (b.host-is, b.diversions-is, b.last-is) (λ h each path is. whole_beside w new.ways.aliases item path (sym directory ∙ sym is) (here h each));
            whole = rw (b.host-is, b.diversions-is)
                (λ h each path has. each_more (λ (p : Path). IsWhole w p new.ways.aliases) c.args.paths.now c.loop-path.path-index item c.loop-path-test.true c.path-item.is
                (λ p in_them. subst (λ (v : World). IsWhole v p new.ways.aliases) inv.reads.world
                (whole_grown after.honest before.world mid new p call.grows h (there h each) (subst (λ (v : World). IsWhole v p mid.ways.aliases) (sym inv.reads.world) (inv.whole (call.silent.honest h) each p in_them))))
                (here h each) path has);
            reads = rw b.host-is (reads_then _ _ _ inv.reads call.reads);
            silent = rw b.host-is (silent_then _ _ _ inv.silent call.silent);
            counts = rw b.host-is (search rules);
          }
      | else-ne b ↦
          record {
            text = rw b.last-is inv.text;
            settled = rw (b.host-is, b.diversions-is, b.passed-is) inv.settled;
            passed = rw (b.host-is, b.diversions-is, b.passed-is) inv.passed;
            grows = rw (b.host-is, b.diversions-is) inv.grows;
            last = rw (b.host-is, b.diversions-is, b.last-is) inv.last;
            whole = rw (b.host-is, b.diversions-is)
                (λ h each path has. each_more (λ (p : Path). IsWhole w p mid.ways.aliases) c.args.paths.now c.loop-path.path-index item c.loop-path-test.true c.path-item.is
                (inv.whole h each) (inv.last h each item (sym directory ∙ same_directory c.directory_of-directory.result.now c.loop-path.last.now (sym b.if-ne.false ∙ c.ne.ensures))) path has);
            reads = rw b.host-is inv.reads;
            silent = rw b.host-is inv.silent;
            counts = rw b.host-is inv.counts;
          }
    ]

pub returns-clause-whole : goal.returns-clause-whole
returns-clause-whole g c = λ h each path has.
    c.loop-path.invariant.whole h each path (subst (λ (l : List Path). Contains l path) (sym (take_all c.loop-path.path-index c.args.paths.now (omega (arith, c.loop-path-test.false)))) has)
