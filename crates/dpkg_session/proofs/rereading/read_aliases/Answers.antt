use Rattle.std.proofs.Common.{List, ap, sym, subst, ◌∙◌}
use Rattle.aliases.specs.Reading.{AreAliasesIn}
use Rattle.file_lists.proofs.Growing.{aliases_grown, more_joined, more_start}
use Rattle.file_lists.specs.Followed.{AreFollowed, AreWhole, HasMoreAliases}
use Rattle.host_core.specs.Paths.{Path}
use Rattle.host_core.specs.World.{World}
use Rattle.host_core.proofs.Moments.{reads_then}
use Rattle.opening.proofs.Followed.{on_ok}
use Rattle.dpkg_session.proofs.Reread.{anew_both}
use Rattle.dpkg_session.proofs.rereading.read_aliases.Goals as goal

pub returns-in-Ok-read_above_each-clause-grows : goal.returns-in-Ok-read_above_each-clause-grows
returns-in-Ok-read_above_each-clause-grows g c =
    let old = g.H.Host.state c.args.host.now in
    let mid = g.H.Host.state c.read_above_each.new.host in
    let new = g.H.Host.state c.read_aliases.new.host in
    more_joined mid.honest new.honest old.world mid.world c.args.diversions.now c.read_above_each.new.diversions c.read_aliases.new.diversions c.read_aliases.ensures.silent.honest c.read_above_each.ensures.reads.world c.read_above_each.ensures.grows c.read_aliases.ensures.grows

pub returns-in-Ok-read_above_each-clause-anew : goal.returns-in-Ok-read_above_each-clause-anew
returns-in-Ok-read_above_each-clause-anew g c = λ h.
    let w = (g.H.Host.state c.args.host.now).world in
    let between = g.H.Host.state c.read_above_each.new.host in
    let after = g.H.Host.state c.read_aliases.new.host in
    let mid = c.read_above_each.new.diversions in
    let new = c.read_aliases.new.diversions in
    let same = c.read_above_each.ensures.reads.world in
    let before = c.read_aliases.ensures.silent.honest h in
    on_ok c.read_aliases.result
    (λ listed each.
    let there = aliases_grown between.honest w c.args.diversions.now mid c.read_above_each.ensures.grows before each in
    anew_both after.honest w c.args.lists.now.lists c.args.diversions.now mid new between.honest c.read_above_each.ensures.grows (subst (λ (v : World). HasMoreAliases after.honest v mid new) same c.read_aliases.ensures.grows) h there
    (subst (λ (ps : List Path). AreWhole w ps mid.ways.aliases) (c.as_slice.ensures.value ∙ c.in-Ok.ensures) (c.in-Ok-read_above_each.ensures.whole before each))
    (subst (AreFollowed c.args.lists.now.lists new.ways) same (listed (subst (λ (v : World). AreAliasesIn v mid.ways.aliases) (sym same) there))))
    (c.read_aliases.ensures.followed h)

pub returns-in-Ok-read_above_each-clause-reads : goal.returns-in-Ok-read_above_each-clause-reads
returns-in-Ok-read_above_each-clause-reads g c = reads_then _ _ _ c.read_above_each.ensures.reads c.read_aliases.ensures.reads

pub returns-in_default-clause-grows : goal.returns-in_default-clause-grows
returns-in_default-clause-grows g c = let s = g.H.Host.state c.args.host.now in more_start s.honest s.world c.args.diversions.now
