use Rattle.std.proofs.Common.{◌≡◌, IsTrue}
use Rattle.host_core.specs.Host.{Reads, Silent, NoFault}
use Rattle.aliases.specs.Links.{go, names_of, end_of, leads_to}
use Rattle.aliases.proofs.links.leads_to.Given as goal

abbrev pub invariant-loop-names : goal.invariant-loop-names
invariant-loop-names g l =
    let old = g.H.Host.state l.fn.host in
    let now = g.H.Host.state l.host in
    record {
      going : IsTrue now.honest → end_of old.world (go old.world l.at (names_of l.names)) l.links ≡ leads_to old.world l.path;
      reads : Reads old now;
      silent : Silent old now;
      counts : NoFault old now;
    }

abbrev pub decreases-loop-names : goal.decreases-loop-names
decreases-loop-names g l = l.links
