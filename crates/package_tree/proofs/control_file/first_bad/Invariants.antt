use Rattle.std.proofs.Common.{take}
use Rattle.package_tree.specs.ControlFile.{HasNoBadRelation}
use Rattle.package_tree.proofs.control_file.first_bad.Given as goal

abbrev pub invariant-loop-relation : goal.invariant-loop-relation
invariant-loop-relation l = HasNoBadRelation (take l.relation-index l.relations) l.paragraph
