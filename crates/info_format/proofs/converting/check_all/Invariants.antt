use Rattle.std.proofs.Common.{◌≡◌, take, IsTrue, Contains, true}
use Rattle.std.specs.Prelude.{IsSome}
use Rattle.host_core.specs.Host.{AtEachMoment, Reads, Silent, NoFault}
use Rattle.host_core.specs.World.{IsLoose}
use Rattle.info_format.specs.Steps.{AreFit, AreGiving, AreTaking}
use Rattle.info_format.specs.declared.pairs.Pair.{Pair}
use Rattle.info_format.proofs.converting.check_all.Given as goal

abbrev pub invariant-loop-pair : goal.invariant-loop-pair
invariant-loop-pair g l = record {
  silent : Silent (g.H.Host.state l.fn.host) (g.H.Host.state l.host);
  counts : NoFault (g.H.Host.state l.fn.host) (g.H.Host.state l.host);
  reads : Reads (g.H.Host.state l.fn.host) (g.H.Host.state l.host);
  fit : IsTrue (g.H.Host.state l.host).honest → AreFit l.one (take l.pair-index l.pairs) (g.H.Host.state l.fn.host).world;
}
