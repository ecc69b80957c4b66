use Rattle.std.proofs.Common.{◌∙◌, String, Global, List, sym, ap, subst, arith, rules, Contains}
use Rattle.std.specs.List.{list_any}
use Rattle.std.specs.Str.{bytes_eq}
use Rattle.std.specs.String.{string_bytes}
use Rattle.std.proofs.lemmas.Bool.{false≢true}
use Rattle.std.proofs.lemmas.List.{take_all}
use Rattle.host_core.specs.Paths.{Path}
use Rattle.host_core.specs.World.{World}
use Rattle.host_core.proofs.Moments.{reads_then, silent_then}
use Rattle.aliases.specs.Links.{above}
use Rattle.aliases.specs.Reading.{AreAliasesIn, IsWhole}
use Rattle.aliases.specs.Ways.{AreSettled}
use Rattle.file_lists.specs.declared.paths.PackageList.{PackageList}
use Rattle.file_lists.proofs.Indexes.{each_more}
use Rattle.file_lists.proofs.Growing.{all_listed, more_start, more_joined, whole_grown, aliases_grown}
use Rattle.file_lists.proofs.following.read_aliases.Goals as goal

pub loop-list-init : goal.loop-list-init
loop-list-init g c =
    let s = g.H.Host.state c.args.host.now in
    record {
      settled = λ h. subst (AreSettled s.world c.args.diversions.now.ways.aliases) (sym c.none.ensures) tt;
      passed = λ h each path entered. absurd (false≢true (sym (ap (λ (keys : List (String Global)). list_any (λ k. bytes_eq (above path) (string_bytes k)) keys) c.new.ensures.empty) ∙ entered));
      grows = more_start s.honest s.world c.args.diversions.now;
      whole = λ h each list has. absurd (omega (arith, has.1));
      reads = search rules;
      silent = search rules;
      counts = search rules;
    }

pub returns-in_err-read_above_each-clause-reads : goal.returns-in_err-read_above_each-clause-reads
returns-in_err-read_above_each-clause-reads g c = reads_then _ _ _ c.loop-list.invariant.reads c.read_above_each.ensures.reads

pub loop-list-preserved : goal.loop-list-preserved
loop-list-preserved g c =
    let inv = c.loop-list.invariant in
    let w = (g.H.Host.state c.args.host.now).world in
    let before = g.H.Host.state c.loop-list.host in
    let after = g.H.Host.state c.read_above_each.new.host in
    let old = c.args.diversions.now in
    let mid = c.loop-list.diversions in
    let new = c.read_above_each.new.diversions in
    let call = c.read_above_each.ensures in
    record {
      settled = call.settled;
      passed = c.in_ok-read_above_each.ensures.passed;
      grows = more_joined before.honest after.honest w before.world old mid new call.silent.honest inv.reads.world inv.grows call.grows;
      whole = λ h each list has.
          (let there = aliases_grown before.honest w old mid inv.grows (call.silent.honest h) each in
          let here = subst (λ (v : World). AreAliasesIn v mid.ways.aliases) (sym inv.reads.world) there in
          each_more (λ (l : PackageList). (path : Path) → Contains l.paths path → IsWhole w path new.ways.aliases) c.as_slice-list-items.result.now c.loop-list.list-index c.list-item.result c.loop-list-test.true c.list-item.is
          (λ l in_them p has. subst (λ (v : World). IsWhole v p new.ways.aliases) inv.reads.world
          (whole_grown after.honest before.world mid new p call.grows h here (subst (λ (v : World). IsWhole v p mid.ways.aliases) (sym inv.reads.world) (inv.whole (call.silent.honest h) each l in_them p has))))
          (λ p has. subst (λ (v : World). IsWhole v p new.ways.aliases) inv.reads.world (c.in_ok-read_above_each.ensures.whole h here p (subst (λ (l : List Path). Contains l p) (sym c.as_slice.ensures) has))) list has);
      reads = reads_then _ _ _ inv.reads call.reads;
      silent = silent_then _ _ _ inv.silent call.silent;
      counts = search rules;
    }

pub returns-clause-followed : goal.returns-clause-followed
returns-clause-followed g c = λ h each.
    let inv = c.loop-list.invariant in
    let w = (g.H.Host.state c.args.host.now).world in
    let items = c.as_slice-list-items.result.now in
    let all = take_all c.loop-list.list-index items (omega (arith, c.loop-list-test.false)) in
    record {
      aliases = aliases_grown (g.H.Host.state c.loop-list.host).honest w c.args.diversions.now c.loop-list.diversions inv.grows h each;
      whole = all_listed c.args.table.now (λ p. IsWhole w p c.loop-list.diversions.ways.aliases) (λ l has. inv.whole h each l (subst (λ (ls : List PackageList). Contains ls l) (sym (all ∙ c.as_slice-list-items.ensures)) has));
    }
