-- The relation fields of a control file, looked at one after another.
use Rattle.std.proofs.Common.{◌≡◌, ◌<◌, ℕ, suc, Bool, true, false, IsTrue, List, length, get_or, take, drop, Result, Ok, Err, refl, subst, inl, inr}
use Rattle.std.specs.Prelude.{IfOk, MatchBool, ◌↔◌}
use Rattle.std.proofs.Math.Seq.{split_at}
use Rattle.std.proofs.lemmas.Bool.{false≢true, true≢false}
use Rattle.control_fields.specs.Names.{value_of, IsFieldCalled}
use Rattle.control_fields.specs.declared.field.Field.{Field}
use Rattle.relation_fields.specs.RelationFields.{relation_key, IsRelation}
use Rattle.relation_fields.specs.declared.relation_field.RelationField.{RelationField}
use Rattle.relation_fields.specs.declared.relation_field.RelationField.TheVariants.{Depends, PreDepends, Breaks, Conflicts, Provides, Replaces}
use Rattle.stated_relations.specs.Stated.{CanAllBeRead}
use Rattle.package_tree.specs.ControlFile.{key_of, relation_order, IsGoodField, HasBadValue, HasNoBad, HasNoBadRelation, IsFirstBadRelation}
use Rattle.package_tree.specs.declared.fault.FieldName.{FieldName}
use Rattle.package_tree.specs.declared.fault.FieldName.TheVariants.{Relation}
use Rattle.package_tree.proofs.FieldsOnce.{called_once, lacked}

-- whether a field that stands can be read
pub judged : {E : Type 0} (r : Result Bool E) (name : FieldName) (fields : List Field) (f : Field) → IsFieldCalled (key_of name) fields f → IfOk r (λ good. IsTrue good ↔ IsGoodField name f)
    → IfOk r (λ good. MatchBool good (HasNoBad name fields) (HasBadValue name fields))
judged (Ok true) name fields f called says = inr (f.first, record { field = f; called = called; is = refl; good = says.0 refl })
judged (Ok false) name fields f called says = record { field = f; called = called; bad = λ good. false≢true (says.1 good) }
judged (Err e) name fields f called says = tt

pub first_here : (rs : List RelationField) (i : ℕ) (d : RelationField) (fields : List Field) (good : Bool) → i < length rs → HasNoBadRelation (take i rs) fields → good ≡ false
    → MatchBool good (HasNoBad (Relation (get_or rs i d)) fields) (HasBadValue (Relation (get_or rs i d)) fields) → IsFirstBadRelation rs fields (get_or rs i d)
first_here rs i d fields true lt all is judged = absurd (true≢false is)
first_here rs i d fields false lt all is judged = record { front = take i rs; rest = drop (suc i) rs; is = split_at rs i d lt; good = all; bad = judged }

one_of_all : (field : RelationField) (fields : List Field) → HasNoBadRelation relation_order fields → HasNoBad (Relation field) fields
one_of_all Depends fields all = all.0
one_of_all PreDepends fields all = all.1.0
one_of_all Breaks fields all = all.1.1.0
one_of_all Conflicts fields all = all.1.1.1.0
one_of_all Provides fields all = all.1.1.1.1.0
one_of_all Replaces fields all = all.1.1.1.1.1.0

good_value : (field : RelationField) (fields : List Field) (f : Field) → HasNoBad (Relation field) fields → IsFieldCalled (relation_key field) fields f → IsRelation field (value_of f)
good_value field fields f (inl lacks) called = absurd (lacked (relation_key field) fields f called lacks)
good_value field fields f (inr has) called = subst (IsGoodField (Relation field)) (called_once (relation_key field) fields has.1.field f has.1.called called) has.1.good

-- where none is bad, each that stands can be read
pub all_readable : (fields : List Field) → HasNoBadRelation relation_order fields → CanAllBeRead fields
all_readable fields all = λ field f called. ∣ good_value field fields f (one_of_all field fields all) called ∣₁
