use Rattle.std.proofs.Common.{List, ℕ, subst, sym, ◌∙◌}
use Rattle.control_fields.specs.Names.{IsFieldCalled}
use Rattle.relation_fields.specs.RelationFields.{IsRelation}
use Rattle.relation_fields.specs.declared.relation_field.RelationField.TheVariants.{Provides}
use Rattle.stated_relations.proofs.relations.provides_of.Goals as goal

pub read_provides-requires : goal.read_provides-requires
read_provides-requires c =
    let f = c.in-Some.stated.now in
    let called = subst (λ (key : List ℕ). IsFieldCalled key c.args.fields.now f) (c.as_bytes.ensures.value ∙ c.key.ensures) c.in-Some.ensures.some in
    subst (λ (value : List ℕ). ∥ IsRelation Provides value ∥₁) (sym (c.as_slice.ensures.value ∙ c.in_ok-value-in-Some.ensures)) (c.requires f called)
