use Rattle.std.proofs.Common.{Contains, take}
use Rattle.undo_rows.specs.Undoing.{owners_of}
use Rattle.undo_rows.proofs.failed.has_failed.Given as goal

abbrev pub invariant-loop-one : goal.invariant-loop-one
invariant-loop-one l = Contains (owners_of (take l.one-index l.failed)) l.owner → ⊥
