use Rattle.std.proofs.Common.{◌≡◌, take, IsTrue, Contains, true}
use Rattle.std.specs.Prelude.{IsSome}
use Rattle.host_core.specs.Host.{AtEachMoment, Reads, Silent, NoFault}
use Rattle.host_core.specs.World.{IsLoose}
use Rattle.info_format.specs.Converting.{NoMoreAside}
use Rattle.info_format.specs.Steps.{AreGiving}
use Rattle.info_format.specs.declared.pairs.Pair.{Pair}
use Rattle.info_format.proofs.converting.give_all.Given as goal

abbrev pub invariant-loop-pair : goal.invariant-loop-pair
invariant-loop-pair g l = record {
  silent : Silent (g.H.Host.state l.fn.host) (g.H.Host.state l.host);
  counts : NoFault (g.H.Host.state l.fn.host) (g.H.Host.state l.host);
  giving : IsTrue (g.H.Host.state l.host).honest → AreGiving l.pairs (g.H.Host.state l.fn.host).world (g.H.Host.state l.host).world;
  aside : IsTrue (g.H.Host.state l.host).honest → NoMoreAside (g.H.Host.state l.fn.host).world (g.H.Host.state l.host).world;
  all : IsTrue (g.H.Host.state l.host).honest → (p : Pair) → Contains (take l.pair-index l.pairs) p → IsLoose ((g.H.Host.state l.fn.host).world p.long) → IsSome ((g.H.Host.state l.host).world p.short);
  any_moment : AtEachMoment (AreGiving l.pairs) (g.H.Host.state l.fn.host) (g.H.Host.state l.host);
}
