use Rattle.std.proofs.Common.{◌≡◌, false, drop, take, IsTrue}
use Rattle.host_core.specs.Host.{AtEachMomentOf, Needs, Silent, NoFault, WasDenied}
use Rattle.unit_stages.specs.Doing.{AreAmid}
use Rattle.unit_stages.specs.PartFitting.{AreFit, AreSettleable}
use Rattle.held_administration.specs.Order.{IsInOrder}
use Rattle.unit_stages.specs.Parts.{HaveDone, parts_lists, parts_records}
use Rattle.unit_stages.proofs.Apart.{GoesApart}
use Rattle.unit_stages.proofs.doing.do_parts.Given as goal

abbrev pub invariant-loop-part : goal.invariant-loop-part
invariant-loop-part g l = record {
  silent : Silent (g.H.Host.state l.fn.host) (g.H.Host.state l.host);
  counts : NoFault (g.H.Host.state l.fn.host) (g.H.Host.state l.host);
  records : l.database.records ≡ parts_records l.name (take l.part-index l.parts) l.fn.database.records;
  lists : l.lists.lists ≡ parts_lists l.name (take l.part-index l.parts) l.fn.lists.lists;
  noting : l.database.closed ≡ false;
  listing : l.lists.closed ≡ false;
  fit : AreFit l.name (drop l.part-index l.parts) l.database.records l.lists.lists;
  order : Needs (g.H.Host.state l.host) (IsInOrder l.database l.lists.lists);
  settleable : Needs (g.H.Host.state l.host) (AreSettleable (drop l.part-index l.parts));
  done : IsTrue (g.H.Host.state l.host).honest → HaveDone l.name (WasDenied (g.H.Host.state l.fn.host) (g.H.Host.state l.host)) (take l.part-index l.parts) l.fn.database.records (g.H.Host.state l.fn.host).world (g.H.Host.state l.host).world;
  any_moment : AtEachMomentOf (AreAmid l.name l.parts l.fn.database.records) (g.H.Host.state l.fn.host) (g.H.Host.state l.host);
  apart : GoesApart (g.H.Host.state l.fn.host) (g.H.Host.state l.host);
}
