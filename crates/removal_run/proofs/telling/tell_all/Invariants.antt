use Rattle.std.proofs.Common.{take}
use Rattle.unit_reports.specs.Watching.{IsTold}
use Rattle.removal_run.proofs.telling.tell_all.Given as goal

abbrev pub invariant-loop-unit : goal.invariant-loop-unit
invariant-loop-unit g l = IsTold g.W.Watcher.tells (g.H.Host.state l.host) l.fn.watcher (take l.unit-index l.units) l.watcher
