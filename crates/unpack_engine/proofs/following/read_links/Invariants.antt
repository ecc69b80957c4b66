use Rattle.std.proofs.Common.{IsTrue, take}
use Rattle.aliases.specs.Reading.{AreAliasesIn}
use Rattle.aliases.specs.Ways.{AreSettled}
use Rattle.file_lists.specs.Followed.{AreWhole, HasMoreAliases}
use Rattle.host_core.specs.Host.{Needs, NoFault, Reads, Silent}
use Rattle.unpack_engine.proofs.Linked.{bare}
use Rattle.unpack_engine.proofs.following.read_links.Given as goal

abbrev pub invariant-loop-path : goal.invariant-loop-path
invariant-loop-path g l =
    let old = g.H.Host.state l.fn.host in
    let now = g.H.Host.state l.host in
    record {
      settled : Needs now (λ w. AreSettled w l.found l.looked);
      grows : HasMoreAliases now.honest old.world (bare l.fn.found) (bare l.found);
      whole : IsTrue now.honest → AreAliasesIn old.world l.fn.found → AreWhole old.world (take l.path-index l.paths) l.found;
      reads : Reads old now;
      silent : Silent old now;
      counts : NoFault old now;
    }
