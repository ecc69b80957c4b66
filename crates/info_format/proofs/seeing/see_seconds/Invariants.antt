use Rattle.std.proofs.Common.{take, IsTrue, Contains}
use Rattle.std.specs.Prelude.{IsSome}
use Rattle.host_core.specs.Host.{Reads, Silent, NoFault}
use Rattle.host_core.specs.World.{IsLoose}
use Rattle.host_overlay.specs.Seen.{AreSources, seen}
use Rattle.info_format.specs.Converting.{NoMoreAside}
use Rattle.info_format.specs.Steps.{AreGiving}
use Rattle.info_format.specs.declared.pairs.Pair.{Pair}
use Rattle.info_format.proofs.seeing.see_seconds.Given as goal

abbrev pub invariant-loop-pair : goal.invariant-loop-pair
invariant-loop-pair g l = record {
  silent : Silent (g.H.Host.state l.fn.host) (g.H.Host.state l.host);
  counts : NoFault (g.H.Host.state l.fn.host) (g.H.Host.state l.host);
  reads : Reads (g.H.Host.state l.fn.host) (g.H.Host.state l.host);
  giving : IsTrue (g.H.Host.state l.host).honest → AreGiving l.pairs (seen l.fn.names (g.H.Host.state l.fn.host).world) (seen l.names (g.H.Host.state l.fn.host).world);
  aside : IsTrue (g.H.Host.state l.host).honest → NoMoreAside (seen l.fn.names (g.H.Host.state l.fn.host).world) (seen l.names (g.H.Host.state l.fn.host).world);
  all : IsTrue (g.H.Host.state l.host).honest → (p : Pair) → Contains (take l.pair-index l.pairs) p → IsLoose (seen l.fn.names (g.H.Host.state l.fn.host).world p.long) → IsSome (seen l.names (g.H.Host.state l.fn.host).world p.short);
  sources : IsTrue (g.H.Host.state l.host).honest → AreSources l.fn.names (g.H.Host.state l.fn.host).world → AreSources l.names (g.H.Host.state l.fn.host).world;
}
