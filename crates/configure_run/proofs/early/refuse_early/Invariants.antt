use Rattle.std.proofs.Common.{take}
use Rattle.unit_reports.specs.Watching.{AddsTold}
use Rattle.configure_run.specs.Early.{AreRefused, early_refusals}
use Rattle.configure_run.proofs.early.refuse_early.Given as goal

abbrev pub invariant-loop-name : goal.invariant-loop-name
invariant-loop-name g l = record {
  refused : AreRefused (early_refusals l.database.records (take l.name-index l.names)) l.units.items;
  watched : AddsTold g.W.Watcher.tells (g.H.Host.state l.host) l.fn.units.items l.units.items l.fn.watcher l.watcher;
}
