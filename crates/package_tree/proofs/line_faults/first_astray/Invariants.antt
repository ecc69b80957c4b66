use Rattle.std.proofs.Common.{◌≡◌, take}
use Rattle.std.specs.Prelude.{IsTrue}
use Rattle.host_core.specs.Host.{Reads, Silent, NoFault}
use Rattle.package_tree.specs.Conffiles.{HasNoEntry}
use Rattle.package_tree.specs.ConffileFaults.{IsAstray}
use Rattle.package_tree.proofs.line_faults.first_astray.Given as goal

abbrev pub invariant-loop-index : goal.invariant-loop-index
invariant-loop-index g l = record {
  none : IsTrue (g.H.Host.state l.host).honest → HasNoEntry (IsAstray (g.H.Host.state l.fn.host).world) (take l.index l.entries);
  reads : Reads (g.H.Host.state l.fn.host) (g.H.Host.state l.host);
  silent : Silent (g.H.Host.state l.fn.host) (g.H.Host.state l.host);
  counts : NoFault (g.H.Host.state l.fn.host) (g.H.Host.state l.host);
}
