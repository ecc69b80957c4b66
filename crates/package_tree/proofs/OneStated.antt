-- What a paragraph states of other packages is read in one way.
use Rattle.std.proofs.Common.{◌≡◌, ◌∙◌, ℕ, List, ap, sym, subst, inl, inr}
use Rattle.control_fields.specs.Names.{value_of}
use Rattle.control_fields.specs.declared.field.Field.{Field}
use Rattle.relation_fields.proofs.FieldLaws.{one_reading}
use Rattle.relation_fields.specs.Entries.{entries_of}
use Rattle.relation_fields.specs.Grammar.{Reads}
use Rattle.relation_fields.specs.RelationFields.{relation_key, field_rules}
use Rattle.relation_fields.specs.declared.alternative.Alternative.{Alternative}
use Rattle.relation_fields.specs.declared.provides.Provided.{Provided}
use Rattle.relation_fields.specs.declared.relation_field.RelationField.{RelationField}
use Rattle.relation_fields.specs.declared.relation_field.RelationField.TheVariants.{PreDepends, Depends, Breaks, Conflicts, Provides, Replaces}
use Rattle.stated_relations.specs.Relations.{HasValue, StatesClauses, StatesProvides}
use Rattle.stated_relations.specs.Stated.{States}
use Rattle.stated_relations.specs.declared.stated.StatedRelations.{StatedRelations}
use Rattle.package_tree.proofs.FieldsOnce.{called_once, lacked}

one_text : (key : List ℕ) (fields : List Field) (a b : List ℕ) → HasValue key fields a → HasValue key fields b → a ≡ b
one_text key fields a b one other = one.2 ∙ ap value_of (called_once key fields one.0 other.0 one.1 other.1) ∙ sym other.2

clauses_once : (field : RelationField) (fields : List Field) (a b : List (List Alternative)) → StatesClauses field fields a → StatesClauses field fields b → a ≡ b
clauses_once field fields a b (inl one) (inl other) =
    one_reading (field_rules field) other.0 a b (subst (λ (value : List ℕ). Reads (field_rules field) value a) (one_text (relation_key field) fields one.0 other.0 one.1 other.1) one.2) other.2
clauses_once field fields a b (inl one) (inr other) = absurd (lacked (relation_key field) fields one.1.0 one.1.1 other.0)
clauses_once field fields a b (inr one) (inl other) = absurd (lacked (relation_key field) fields other.1.0 other.1.1 one.0)
clauses_once field fields a b (inr one) (inr other) = one.1 ∙ sym other.1

provides_once : (fields : List Field) (a b : List Provided) → StatesProvides fields a → StatesProvides fields b → a ≡ b
provides_once fields a b (inl one) (inl other) =
    let text = one_text (relation_key Provides) fields one.0 other.0 one.1 other.1 in
    let reads = subst (λ (value : List ℕ). Reads (field_rules Provides) value one.2.0) text one.2.1 in
    one.2.2 ∙ ap entries_of (one_reading (field_rules Provides) other.0 one.2.0 other.2.0 reads other.2.1) ∙ sym other.2.2
provides_once fields a b (inl one) (inr other) = absurd (lacked (relation_key Provides) fields one.1.0 one.1.1 other.0)
provides_once fields a b (inr one) (inl other) = absurd (lacked (relation_key Provides) fields other.1.0 other.1.1 one.0)
provides_once fields a b (inr one) (inr other) = one.1 ∙ sym other.1

pub stated_once : (fields : List Field) (a b : StatedRelations) → States fields a → States fields b → a ≡ b
stated_once fields a b one other = λ i. record {
  provides = provides_once fields a.provides b.provides one.provides other.provides i;
  pre_depends = clauses_once PreDepends fields a.pre_depends b.pre_depends one.pre_depends other.pre_depends i;
  depends = clauses_once Depends fields a.depends b.depends one.depends other.depends i;
  breaks = clauses_once Breaks fields a.breaks b.breaks one.breaks other.breaks i;
  conflicts = clauses_once Conflicts fields a.conflicts b.conflicts one.conflicts other.conflicts i;
  replaces = clauses_once Replaces fields a.replaces b.replaces one.replaces other.replaces i;
}
