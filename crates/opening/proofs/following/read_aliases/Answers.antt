use Rattle.std.proofs.Common.{sym, subst}
use Rattle.host_core.specs.World.{World}
use Rattle.host_core.proofs.Moments.{reads_then}
use Rattle.aliases.specs.Reading.{AreAliasesIn}
use Rattle.file_lists.specs.Followed.{AreFollowed, HasMoreAliases}
use Rattle.file_lists.proofs.Growing.{aliases_grown, more_joined}
use Rattle.opening.proofs.Followed.{followed_both, on_ok}
use Rattle.opening.proofs.following.read_aliases.Goals as goal

pub returns-in-Ok-clause-grows : goal.returns-in-Ok-clause-grows
returns-in-Ok-clause-grows g c =
    let old = g.H.Host.state c.args.host.now in
    let mid = g.H.Host.state c.read_named.new.host in
    let new = g.H.Host.state c.read_aliases.new.host in
    more_joined mid.honest new.honest old.world mid.world c.args.diversions.now c.read_named.new.diversions c.read_aliases.new.diversions c.read_aliases.ensures.silent.honest c.read_named.ensures.reads.world c.read_named.ensures.grows c.read_aliases.ensures.grows

pub returns-in-Ok-clause-followed : goal.returns-in-Ok-clause-followed
returns-in-Ok-clause-followed g c = λ h.
    let w = (g.H.Host.state c.args.host.now).world in
    let between = g.H.Host.state c.read_named.new.host in
    let after = g.H.Host.state c.read_aliases.new.host in
    let mid = c.read_named.new.diversions in
    let new = c.read_aliases.new.diversions in
    let same = c.read_named.ensures.reads.world in
    let before = c.read_aliases.ensures.silent.honest h in
    on_ok c.read_aliases.result
    (λ listed each.
    let there = aliases_grown between.honest w c.args.diversions.now mid c.read_named.ensures.grows before each in
    followed_both after.honest w c.args.lists.now.lists mid new (subst (λ (v : World). HasMoreAliases after.honest v mid new) same c.read_aliases.ensures.grows) h there
    (c.in-Ok.ensures.whole before each)
    (subst (AreFollowed c.args.lists.now.lists new.ways) same (listed (subst (λ (v : World). AreAliasesIn v mid.ways.aliases) (sym same) there))))
    (c.read_aliases.ensures.followed h)

pub returns-in-Ok-clause-reads : goal.returns-in-Ok-clause-reads
returns-in-Ok-clause-reads g c = reads_then _ _ _ c.read_named.ensures.reads c.read_aliases.ensures.reads
