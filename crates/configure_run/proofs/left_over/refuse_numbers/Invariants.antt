use Rattle.std.proofs.Common.{take}
use Rattle.unit_reports.specs.Watching.{AddsTold}
use Rattle.configure_run.specs.LeftOver.{AddLeftOver}
use Rattle.configure_run.proofs.left_over.refuse_numbers.Given as goal

abbrev pub invariant-loop-number : goal.invariant-loop-number
invariant-loop-number g l = record {
  added : AddLeftOver l.queue (take l.number-index l.numbers) l.fn.units.items l.units.items;
  watched : AddsTold g.W.Watcher.tells (g.H.Host.state l.host) l.fn.units.items l.units.items l.fn.watcher l.watcher;
}
