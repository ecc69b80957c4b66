use Rattle.std.proofs.Common.{◌≡◌, IsTrue, length}
use denote.Text.{Utf8}
use denote.Shadow.{shadow}
use Rattle.host_core.specs.Host.{Reads, Silent, NoFault}
use Rattle.aliases.specs.Links.{go, names_of}
use Rattle.aliases.proofs.links.go_on.Given as goal

abbrev pub invariant-loop-rest : goal.invariant-loop-rest
invariant-loop-rest g l =
    let old = g.H.Host.state l.fn.host in
    let now = g.H.Host.state l.host in
    record {
      text : shadow (Utf8 l.rest);
      going : IsTrue now.honest → go old.world l.at (names_of l.rest) ≡ go old.world l.from (names_of l.names);
      reads : Reads old now;
      silent : Silent old now;
      counts : NoFault old now;
    }

abbrev pub decreases-loop-rest : goal.decreases-loop-rest
decreases-loop-rest g l = length l.rest
