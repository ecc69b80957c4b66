use Rattle.std.proofs.Common.{◌≡◌, take, IsTrue, Contains, None}
use Rattle.host_core.specs.Host.{Reads, Silent, NoFault}
use Rattle.info_format.specs.Steps.{NoFirst}
use Rattle.info_format.proofs.converting.has_long.Given as goal

abbrev pub invariant-loop-pair : goal.invariant-loop-pair
invariant-loop-pair g l = record {
  silent : Silent (g.H.Host.state l.fn.host) (g.H.Host.state l.host);
  counts : NoFault (g.H.Host.state l.fn.host) (g.H.Host.state l.host);
  reads : Reads (g.H.Host.state l.fn.host) (g.H.Host.state l.host);
  none : IsTrue (g.H.Host.state l.host).honest → NoFirst (take l.pair-index l.pairs) (g.H.Host.state l.fn.host).world;
}
