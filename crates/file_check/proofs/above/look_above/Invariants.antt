use Rattle.std.proofs.Common.{◌≡◌, IsTrue, true, length}
use denote.Text.{Utf8}
use denote.Shadow.{shadow}
use Rattle.std.specs.BTreeSet.{contains_text}
use Rattle.host_core.specs.Paths.{is_path}
use Rattle.host_core.specs.Host.{Reads, Silent, NoFault}
use Rattle.file_check.proofs.Looking.{IsLooking}
use Rattle.file_check.proofs.above.look_above.Given as goal

abbrev pub invariant-loop-front : goal.invariant-loop-front
invariant-loop-front g l =
    let old = g.H.Host.state l.fn.host in
    let now = g.H.Host.state l.host in
    record {
      text : shadow (Utf8 l.rest);
      path : is_path l.rest ≡ true;
      looking : IsTrue now.honest → IsLooking (contains_text l.made) old.world l.place l.rest l.lacking;
      reads : Reads old now;
      silent : Silent old now;
      counts : NoFault old now;
    }

abbrev pub decreases-loop-front : goal.decreases-loop-front
decreases-loop-front g l = length l.rest
