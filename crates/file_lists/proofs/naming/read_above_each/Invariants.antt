use Rattle.std.proofs.Common.{IsTrue, take}
use Rattle.host_core.specs.Host.{Needs, Reads, Silent, NoFault}
use Rattle.aliases.specs.Reading.{AreAliasesIn}
use Rattle.aliases.specs.Ways.{AreSettled}
use Rattle.file_lists.specs.Followed.{AreWhole, GrowAlong, HasMoreAliases}
use Rattle.file_lists.proofs.naming.read_above_each.Given as goal

abbrev pub invariant-loop-path : goal.invariant-loop-path
invariant-loop-path g l =
    let old = g.H.Host.state l.fn.host in
    let now = g.H.Host.state l.host in
    record {
      settled : Needs now (λ w. AreSettled w l.diversions.ways.aliases l.looked);
      grows : HasMoreAliases now.honest old.world l.fn.diversions l.diversions;
      along : IsTrue now.honest → GrowAlong old.world (take l.path-index l.paths) l.fn.diversions.ways.aliases l.diversions.ways.aliases;
      whole : IsTrue now.honest → AreAliasesIn old.world l.fn.diversions.ways.aliases → AreWhole old.world (take l.path-index l.paths) l.diversions.ways.aliases;
      reads : Reads old now;
      silent : Silent old now;
      counts : NoFault old now;
    }
