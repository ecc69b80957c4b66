use Rattle.std.proofs.Common.{◌≡◌, take}
use Rattle.list_changes.specs.Leaving.{leaving_of}
use Rattle.list_changes.proofs.leaving.leaving_of.Given as goal

abbrev pub invariant-loop-path : goal.invariant-loop-path
invariant-loop-path l = l.leaving.items ≡ leaving_of l.diversions.ways l.lists.lists l.name l.to_come l.conffiles (take l.path-index l.listed)
