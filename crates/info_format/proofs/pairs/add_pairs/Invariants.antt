use Rattle.std.proofs.Common.{take}
use Rattle.info_format.specs.Naming.{HasPairs}
use Rattle.info_format.proofs.pairs.add_pairs.Given as goal

abbrev pub invariant-loop-entry : goal.invariant-loop-entry
invariant-loop-entry l = HasPairs l.owner (take l.entry-index l.entries) l.fn.pairs.items l.pairs.items
