use Rattle.std.proofs.Common.{◌≡◌, take}
use Rattle.unpack_plan.specs.Names.{backups}
use Rattle.unpack_plan.proofs.names.backups.Given as goal

abbrev pub invariant-loop-work : goal.invariant-loop-work
invariant-loop-work l = l.names.items ≡ backups (take l.work-index l.works)
