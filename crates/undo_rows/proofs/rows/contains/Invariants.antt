use Rattle.std.proofs.Common.{Contains, take}
use Rattle.undo_rows.proofs.rows.contains.Given as goal

abbrev pub invariant-loop-one : goal.invariant-loop-one
invariant-loop-one l = Contains (take l.one-index l.owners) l.owner → ⊥
