-- What a package promises of its control file is what a record asks for.
use Rattle.std.proofs.Common.{◌≡◌, ℕ, false, List, [], ◌∷◌, ◌++◌, refl, sym, subst, ◌∙◌, append_assoc, inl, inr}
use Rattle.std.specs.List.{AllByRecursion}
use Rattle.std.proofs.Props.{props}
use Rattle.std.proofs.Math.Logic.{∥∥₁_elim, ∥∥₁_map}
use Rattle.control_fields.specs.Names.{lower, is_called}
use Rattle.control_fields.specs.Spelling.{AreFields}
use Rattle.control_fields.specs.declared.field.Field.{Field}
use Rattle.relation_fields.specs.declared.relation_field.RelationField.{RelationField}
use Rattle.relation_fields.specs.declared.relation_field.RelationField.TheVariants.{Depends, PreDepends, Breaks, Conflicts, Provides, Replaces}
use Rattle.package_tree.specs.ControlFile.{key_of, relation_order, IsGoodField, HasNoBad, HasNoBadRelation, IsReadable}
use Rattle.package_tree.specs.declared.fault.FieldName.{FieldName}
use Rattle.package_tree.specs.declared.fault.FieldName.TheVariants.{Essential, Relation}
use Rattle.package_tree.proofs.FieldsOnce.{same_field, uncalled}
use Rattle.status_records.specs.Values.{IsReadableControl}
use Rattle.status_records.proofs.ControlValues.{control_readable}
use Rattle.status_records.proofs.Kept.{new_among}

-- the field that stands here is the one of its name
good_at : (name : FieldName) (front rest : List Field) (f : Field) → AreFields [] (front ++ f ∷ rest) → HasNoBad name (front ++ f ∷ rest) → lower f.name ≡ key_of name → IsGoodField name f
good_at name front rest f are (inl lacks) named = absurd (uncalled (key_of name) front rest f lacks named)
good_at name front rest f are (inr good) named =
    let called = good.1.called in
    let here = subst (λ (text : List ℕ). is_called text front ≡ false) named (new_among [] front f rest are) in
    subst (IsGoodField name) (sym (same_field (key_of name) front called.front rest called.rest f good.1.field called.is named called.named here called.first)) good.1.good

relation_of : (relation : RelationField) (fields : List Field) → HasNoBadRelation relation_order fields → HasNoBad (Relation relation) fields
relation_of Depends fields all = all.0
relation_of PreDepends fields all = all.1.0
relation_of Breaks fields all = all.1.1.0
relation_of Conflicts fields all = all.1.1.1.0
relation_of Provides fields all = all.1.1.1.1.0
relation_of Replaces fields all = all.1.1.1.1.1.0

read_here : (front rest : List Field) (f : Field) → AreFields [] (front ++ f ∷ rest) → IsReadable (front ++ f ∷ rest) → IsReadableControl f
read_here front rest f are good =
    control_readable f (good_at Essential front rest f are good.0)
    (λ relation named. good_at (Relation relation) front rest f are (relation_of relation (front ++ f ∷ rest) good.1) named)

read_from : (all front fs : List Field) → all ≡ front ++ fs → AreFields [] all → IsReadable all → AllByRecursion IsReadableControl fs
read_from all front [] is are good = tt
read_from all front (f ∷ fs) is are good = (
  read_here front fs f (subst (AreFields []) is are) (subst IsReadable is good),
  read_from all (front ++ f ∷ []) fs (is ∙ sym (append_assoc front (f ∷ []) fs)) are good,
)

pub recordable : (control : List Field) → ∥ AreFields [] control ∥₁ → ∥ IsReadable control ∥₁ → ∥ AllByRecursion IsReadableControl control ∥₁
recordable control are good = ∥∥₁_elim are (hlevel props) (λ fields. ∥∥₁_map good (λ known. read_from control [] control refl fields known))
