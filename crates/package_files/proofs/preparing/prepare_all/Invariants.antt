use Rattle.std.proofs.Common.{◌-◌, take, length, IsTrue}
use Rattle.host_core.specs.Host.{AtEachMoment, Silent, NoFault}
use Rattle.package_files.specs.Files.{IsAmid}
use Rattle.package_files.specs.Laid.{Prepared}
use Rattle.package_files.proofs.preparing.prepare_all.Given as goal

abbrev pub invariant-loop-index : goal.invariant-loop-index
invariant-loop-index g l = record {
  silent : Silent (g.H.Host.state l.fn.host) (g.H.Host.state l.host);
  counts : NoFault (g.H.Host.state l.fn.host) (g.H.Host.state l.host);
  prepared : IsTrue (g.H.Host.state l.host).honest → Prepared (take l.index l.works) (g.H.Host.state l.fn.host).world (g.H.Host.state l.host).world;
  any_moment : AtEachMoment (λ old now. IsAmid l.works old old now) (g.H.Host.state l.fn.host) (g.H.Host.state l.host);
}

abbrev pub decreases-loop-index : goal.decreases-loop-index
decreases-loop-index g l = length l.works - l.index
