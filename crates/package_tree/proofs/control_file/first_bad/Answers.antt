use Rattle.relation_fields.specs.declared.relation_field.RelationField.TheVariants.{Depends}
use Rattle.package_tree.proofs.RelationsInOrder.{first_here}
use Rattle.package_tree.proofs.control_file.first_bad.Goals as goal

pub returns-then-not-branch : goal.returns-then-not-branch
returns-then-not-branch c = first_here c.args.relations.now c.loop-relation.relation-index Depends c.args.paragraph.now c.in_ok-has_no_bad.field-0 c.loop-relation-test.true c.loop-relation.invariant c.if-not-branch.true c.in_ok-has_no_bad.ensures
