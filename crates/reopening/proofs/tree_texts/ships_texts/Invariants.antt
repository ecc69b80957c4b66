use Rattle.std.proofs.Common.{take}
use Rattle.reopening.specs.Trees.{AreTextFiles}
use Rattle.reopening.proofs.tree_texts.ships_texts.Given as goal

abbrev pub invariant-loop-file : goal.invariant-loop-file
invariant-loop-file l = AreTextFiles (take l.file-index l.incoming.files)
