use Rattle.std.proofs.Common.{◌≡◌, List, [], ap, subst, sym}
use Rattle.aliases.specs.Aliases.{Alias}
use Rattle.aliases.specs.Reading.{AreAliasesIn}
use Rattle.diversions.specs.Diverted.{Diverted}
use Rattle.file_lists.specs.Followed.{AreWhole}
use Rattle.file_lists.proofs.Growing.{aliases_grown, each_grown}
use Rattle.host_core.proofs.Moments.{reads_then}
use Rattle.host_core.specs.World.{World}
use Rattle.unpack_engine.specs.Followed.{LieAsLinked}
use Rattle.unpack_engine.proofs.Again.{if_ok_any}
use Rattle.unpack_engine.proofs.Linked.{linked_by}
use Rattle.unpack_engine.proofs.following.follow_anew.Goals as goal

pub returns-in-Ok-clause-linked : goal.returns-in-Ok-clause-linked
returns-in-Ok-clause-linked g c = λ h.
    let w = (g.H.Host.state c.args.host.now).world in
    let between = g.H.Host.state c.read_above_each.new.host in
    let after = g.H.Host.state c.read_aliases.new.host in
    let mid = c.read_above_each.new.diversions in
    let new = c.read_aliases.new.diversions in
    let falls = c.read_aliases.ensures.silent.honest h in
    let same = c.read_above_each.ensures.reads.world in
    let none = subst (λ (l : List Alias). AreAliasesIn w l) (sym (ap (λ (d : Diverted). d.ways.aliases) c.forget_aliases.ensures)) tt in
    let there = aliases_grown between.honest w c.forget_aliases.new.self mid c.read_above_each.ensures.grows falls none in
    let here = subst (λ (v : World). AreAliasesIn v mid.ways.aliases) (sym same) there in
    let whole = subst (λ (v : World). AreWhole v c.args.paths.now mid.ways.aliases) (sym same) (c.in-Ok.ensures.whole falls none) in
    if_ok_any c.read_aliases.result (LieAsLinked w c.args.paths.now new.ways.aliases)
    (linked_by w c.args.paths.now new.ways.aliases
    (subst (λ (v : World). AreAliasesIn v new.ways.aliases) same (aliases_grown after.honest between.world mid new c.read_aliases.ensures.grows h here))
    (subst (λ (v : World). AreWhole v c.args.paths.now new.ways.aliases) same (each_grown after.honest between.world c.args.paths.now mid new c.read_aliases.ensures.grows h here whole)))

pub returns-in-Ok-clause-reads : goal.returns-in-Ok-clause-reads
returns-in-Ok-clause-reads g c = reads_then _ _ _ c.read_above_each.ensures.reads c.read_aliases.ensures.reads
