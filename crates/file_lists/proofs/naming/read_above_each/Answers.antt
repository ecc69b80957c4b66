use Rattle.std.proofs.Common.{List, sym, subst, arith, refl, rules, take}
use Rattle.std.proofs.lemmas.List.{take_all}
use Rattle.host_core.specs.World.{World}
use Rattle.host_core.specs.Paths.{Path}
use Rattle.host_core.proofs.Moments.{reads_then, silent_then}
use Rattle.aliases.specs.Reading.{AreAliasesIn, IsWhole}
use Rattle.aliases.specs.Ways.{AreSettled}
use Rattle.file_lists.specs.Followed.{AreWhole, GrowAlong}
use Rattle.file_lists.proofs.Growing.{aliases_grown, along_next, each_grown, each_next, grows_true, more_joined, more_one, more_start}
use Rattle.file_lists.proofs.naming.read_above_each.Goals as goal

pub loop-path-init : goal.loop-path-init
loop-path-init g c =
    let s = g.H.Host.state c.args.host.now in
    record {
      settled = λ h. subst (λ (l : List Path). AreSettled s.world c.args.diversions.now.ways.aliases l) (sym c.none-looked.ensures) tt;
      grows = more_start s.honest s.world c.args.diversions.now;
      along = λ h. refl;
      whole = λ h each. tt;
      reads = search rules;
      silent = search rules;
      counts = search rules;
    }

pub returns-in_err-read_above_once-clause-grows : goal.returns-in_err-read_above_once-clause-grows
returns-in_err-read_above_once-clause-grows g c =
    let inv = c.loop-path.invariant in
    let before = g.H.Host.state c.loop-path.host in
    let after = g.H.Host.state c.read_above_once.new.host in
    let call = c.read_above_once.ensures in
    more_joined before.honest after.honest (g.H.Host.state c.args.host.now).world before.world c.args.diversions.now c.loop-path.diversions c.read_above_once.new.self call.silent.honest inv.reads.world inv.grows
    (more_one after.honest before.world c.loop-path.diversions c.read_above_once.new.self c.path-item.result call.grows call.kept)

pub returns-in_err-read_above_once-clause-reads : goal.returns-in_err-read_above_once-clause-reads
returns-in_err-read_above_once-clause-reads g c = reads_then _ _ _ c.loop-path.invariant.reads c.read_above_once.ensures.reads

pub loop-path-preserved : goal.loop-path-preserved
loop-path-preserved g c =
    let inv = c.loop-path.invariant in
    let w = (g.H.Host.state c.args.host.now).world in
    let before = g.H.Host.state c.loop-path.host in
    let after = g.H.Host.state c.read_above_once.new.host in
    let old = c.args.diversions.now in
    let mid = c.loop-path.diversions in
    let new = c.read_above_once.new.self in
    let call = c.read_above_once.ensures in
    let past : List Path = take c.loop-path.path-index c.args.paths.now in
    let path = c.path-item.result in
    let step = more_one after.honest before.world mid new path call.grows call.kept in
    record {
      settled = call.settled;
      grows = more_joined before.honest after.honest w before.world old mid new call.silent.honest inv.reads.world inv.grows step;
      along = λ h. along_next w c.args.paths.now c.loop-path.path-index path old.ways.aliases mid.ways.aliases new.ways.aliases c.loop-path-test.true c.path-item.is (inv.along (call.silent.honest h))
          (grows_true after.honest before.world w path mid.ways.aliases new.ways.aliases h inv.reads.world call.grows);
      whole = λ h each.
          let there = aliases_grown before.honest w old mid inv.grows (call.silent.honest h) each in
          let here = subst (λ (v : World). AreAliasesIn v mid.ways.aliases) (sym inv.reads.world) there in
          let before_it = subst (λ (v : World). AreWhole v past mid.ways.aliases) (sym inv.reads.world) (inv.whole (call.silent.honest h) each) in
          each_next w c.args.paths.now c.loop-path.path-index path new.ways.aliases c.loop-path-test.true c.path-item.is
          (subst (λ (v : World). AreWhole v past new.ways.aliases) inv.reads.world (each_grown after.honest before.world past mid new step h here before_it))
          (subst (λ (v : World). IsWhole v path new.ways.aliases) inv.reads.world (c.in_ok-read_above_once.ensures.whole h here));
      reads = reads_then _ _ _ inv.reads call.reads;
      silent = silent_then _ _ _ inv.silent call.silent;
      counts = search rules;
    }

pub returns-clause-along : goal.returns-clause-along
returns-clause-along g c = λ h.
    let inv = c.loop-path.invariant in
    subst (λ (l : List Path). GrowAlong (g.H.Host.state c.args.host.now).world l c.args.diversions.now.ways.aliases c.loop-path.diversions.ways.aliases)
    (take_all c.loop-path.path-index c.args.paths.now (omega (arith, c.loop-path-test.false))) (inv.along h)

pub returns-clause-whole : goal.returns-clause-whole
returns-clause-whole g c = λ h each.
    let inv = c.loop-path.invariant in
    subst (λ (l : List Path). AreWhole (g.H.Host.state c.args.host.now).world l c.loop-path.diversions.ways.aliases)
    (take_all c.loop-path.path-index c.args.paths.now (omega (arith, c.loop-path-test.false))) (inv.whole h each)
