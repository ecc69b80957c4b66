use Rattle.std.proofs.Common.{List, refl, sym, subst, arith, rules, take}
use Rattle.std.proofs.lemmas.List.{take_all}
use Rattle.host_core.specs.World.{World}
use Rattle.host_core.specs.Paths.{Path}
use Rattle.host_core.proofs.Moments.{reads_then, silent_then}
use Rattle.aliases.specs.Reading.{AreAliasesIn, IsWhole}
use Rattle.aliases.specs.Ways.{AreSettled}
use Rattle.file_lists.specs.Followed.{AreWhole}
use Rattle.file_lists.proofs.Growing.{aliases_grown, each_grown, each_next, more_joined, more_one, more_start}
use Rattle.unpack_engine.proofs.Linked.{bare}
use Rattle.unpack_engine.proofs.following.read_links.Goals as goal

pub loop-path-init : goal.loop-path-init
loop-path-init g c =
    let s = g.H.Host.state c.args.host.now in
    record {
      settled = λ h. subst (λ (l : List Path). AreSettled s.world c.args.found.now l) (sym c.none-looked.ensures) tt;
      grows = more_start s.honest s.world (bare c.args.found.now);
      whole = λ h each. tt;
      reads = search rules;
      silent = search rules;
      counts = search rules;
    }

pub returns-in_err-read_above_once-clause-sound : goal.returns-in_err-read_above_once-clause-sound
returns-in_err-read_above_once-clause-sound g c = λ h each.
    let inv = c.loop-path.invariant in
    let before = g.H.Host.state c.loop-path.host in
    let after = g.H.Host.state c.read_above_once.new.host in
    let call = c.read_above_once.ensures in
    let w = (g.H.Host.state c.args.host.now).world in
    aliases_grown after.honest w (bare c.args.found.now) (bare c.read_above_once.new.self)
    (more_joined before.honest after.honest w before.world (bare c.args.found.now) (bare c.loop-path.found) (bare c.read_above_once.new.self) call.silent.honest inv.reads.world inv.grows
    (more_one after.honest before.world (bare c.loop-path.found) (bare c.read_above_once.new.self) c.path-item.result call.grows refl)) h each

pub returns-in_err-read_above_once-clause-reads : goal.returns-in_err-read_above_once-clause-reads
returns-in_err-read_above_once-clause-reads g c = reads_then _ _ _ c.loop-path.invariant.reads c.read_above_once.ensures.reads

pub loop-path-preserved : goal.loop-path-preserved
loop-path-preserved g c =
    let inv = c.loop-path.invariant in
    let w = (g.H.Host.state c.args.host.now).world in
    let before = g.H.Host.state c.loop-path.host in
    let after = g.H.Host.state c.read_above_once.new.host in
    let old = bare c.args.found.now in
    let mid = bare c.loop-path.found in
    let new = bare c.read_above_once.new.self in
    let call = c.read_above_once.ensures in
    let past : List Path = take c.loop-path.path-index c.args.paths.now in
    let path = c.path-item.result in
    let step = more_one after.honest before.world mid new path call.grows refl in
    record {
      settled = call.settled;
      grows = more_joined before.honest after.honest w before.world old mid new call.silent.honest inv.reads.world inv.grows step;
      whole = λ h each.
          let there = aliases_grown before.honest w old mid inv.grows (call.silent.honest h) each in
          let here = subst (λ (v : World). AreAliasesIn v mid.ways.aliases) (sym inv.reads.world) there in
          let before_it = subst (λ (v : World). AreWhole v past mid.ways.aliases) (sym inv.reads.world) (inv.whole (call.silent.honest h) each) in
          each_next w c.args.paths.now c.loop-path.path-index path new.ways.aliases c.loop-path-test.true c.path-item.is
          (subst (λ (v : World). AreWhole v past new.ways.aliases) inv.reads.world (each_grown after.honest before.world past mid new step h here before_it))
          (subst (λ (v : World). IsWhole v path new.ways.aliases) inv.reads.world (c.in_ok-read_above_once.ensures.whole h here));
      reads = reads_then _ _ _ inv.reads call.reads;
      silent = silent_then _ _ _ inv.silent call.silent;
      counts = search rules;
    }

pub returns-clause-sound : goal.returns-clause-sound
returns-clause-sound g c = λ h each.
    let inv = c.loop-path.invariant in
    let w = (g.H.Host.state c.args.host.now).world in
    aliases_grown (g.H.Host.state c.loop-path.host).honest w (bare c.args.found.now) (bare c.loop-path.found) inv.grows h each

pub returns-clause-whole : goal.returns-clause-whole
returns-clause-whole g c = λ h each.
    let inv = c.loop-path.invariant in
    subst (λ (l : List Path). AreWhole (g.H.Host.state c.args.host.now).world l c.loop-path.found)
    (take_all c.loop-path.path-index c.args.paths.now (omega (arith, c.loop-path-test.false))) (inv.whole h each)
