use Rattle.std.proofs.Common.{◌∙◌, subst}
use Rattle.control_fields.specs.Names.{IsFieldCalled}
use Rattle.package_tree.specs.declared.fault.FieldName.TheVariants.{Relation}
use Rattle.package_tree.proofs.RelationsInOrder.{judged}
use Rattle.package_tree.proofs.control_file.has_no_bad.Goals as goal

pub returns-in-Some : goal.returns-in-Some
returns-in-Some c =
    let called = subst (λ key. IsFieldCalled key c.args.paragraph.now c.in-Some.field.now) (c.as_bytes.ensures.value ∙ c.key.ensures) c.in-Some.ensures.some in
    judged c.is_good_relation.result (Relation c.args.relation) c.args.paragraph.now c.in-Some.field.now called c.is_good_relation.ensures
