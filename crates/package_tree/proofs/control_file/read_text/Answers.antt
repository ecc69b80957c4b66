use Rattle.std.proofs.Common.{◌≡◌, true, subst}
use Rattle.texts.specs.PackageNames.{is_package_name}
use Rattle.package_tree.proofs.Passing.{passed_fault, told_fields}
use Rattle.package_tree.proofs.RelationsInOrder.{all_readable}
use Rattle.package_tree.proofs.control_file.read_text.Goals as goal

pub returns-in_err-paragraph-clause-fault : goal.returns-in_err-paragraph-clause-fault
returns-in_err-paragraph-clause-fault c = passed_fault _ c.from_residual.result c.in_err-paragraph.field-0.0 c.from_residual.ensures.1 c.in_err-paragraph.ensures.fault

pub returns-in_err-name-clause-fault : goal.returns-in_err-name-clause-fault
returns-in_err-name-clause-fault c =
    let fault = c.in_err-name.field-0.0 in
    passed_fault _ c.from_residual-in_err-name.result fault c.from_residual-in_err-name.ensures.1
    (told_fields c.args.text.now c.in_ok-paragraph.paragraph fault c.in_ok-paragraph.ensures.reads c.in_err-name.ensures.fault)

pub stated_relations-requires : goal.stated_relations-requires
stated_relations-requires c = all_readable c.in_ok-paragraph.paragraph c.in_ok-name.ensures.fields.relations

pub invariant_of-result : goal.invariant_of-result
invariant_of-result c =
    let fields = c.in_ok-name.ensures.fields in
    record { named = subst (λ n. is_package_name n ≡ true) fields.named.is fields.named.good.1; written = ∣ c.in_ok-paragraph.ensures.written ∣₁; readable = ∣ (fields.essential, fields.relations) ∣₁; stated = ∣ c.in_ok-relations.ensures ∣₁ }
