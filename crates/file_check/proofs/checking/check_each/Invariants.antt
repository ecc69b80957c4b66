use Rattle.std.proofs.Common.{◌≡◌, IsTrue, take}
use Rattle.std.specs.BTreeSet.{contains_text}
use Rattle.host_core.specs.Host.{Reads, Silent, NoFault}
use Rattle.file_check.specs.Index.{AllOutside}
use Rattle.file_check.specs.Sound.{AreSound}
use Rattle.file_check.proofs.checking.check_each.Given as goal

abbrev pub invariant-loop-one : goal.invariant-loop-one
invariant-loop-one g l =
    let old = g.H.Host.state l.fn.host in
    let now = g.H.Host.state l.host in
    record {
      sound : IsTrue now.honest → AreSound l.owning (contains_text l.index.made) (contains_text l.index.twice) old.world (take l.one-index l.works);
      apart : AllOutside (contains_text l.index.twice) (take l.one-index l.works);
      reads : Reads old now;
      silent : Silent old now;
      counts : NoFault old now;
    }
