use Rattle.std.proofs.Common.{take}
use Rattle.info_format.proofs.Two.{ArePairsOf}
use Rattle.info_format.proofs.pairs.pairs_of.Given as goal

abbrev pub invariant-loop-owner : goal.invariant-loop-owner
invariant-loop-owner l = ArePairsOf (take l.owner-index l.packages) l.entries l.pairs.items
