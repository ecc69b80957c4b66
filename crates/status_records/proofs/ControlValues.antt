-- Which fields of a control file can be read, by their names.
use Rattle.std.proofs.Common.{◌≡◌, ℕ, Bool, true, false, cond, List, Option, Some, None, refl, codes}
use Rattle.std.specs.Option.{option_map_or}
use Rattle.std.specs.Str.{bytes_eq}
use Rattle.std.proofs.lemmas.Slice.Eq.{bytes_eq-Decides}
use Rattle.control_fields.specs.Names.{lower, value_of, IsYesOrNo}
use Rattle.control_fields.specs.declared.field.Field.{Field}
use Rattle.relation_fields.specs.RelationFields.{relation_key, IsRelation}
use Rattle.relation_fields.specs.declared.relation_field.RelationField.{RelationField}
use Rattle.relation_fields.specs.declared.relation_field.RelationField.TheVariants.{Depends, PreDepends, Breaks, Conflicts, Provides, Replaces}
use Rattle.status_records.specs.Values.{relation_kind, IsReadableAs, IsReadableControl}
use Rattle.status_records.specs.declared.values.Kind.TheVariants as kind

-- a field is read as the one that its name calls, if there is one

chosen : (b : Bool) (relation : RelationField) (other : Option RelationField) (f : Field) → (b ≡ true → IsRelation relation (value_of f)) → IsReadableAs (option_map_or kind.Relation other kind.Any) f
    → IsReadableAs (option_map_or kind.Relation (cond b (Some relation) other) kind.Any) f
chosen true relation other f here rest = here refl
chosen false relation other f here rest = rest

relation_read : (key : List ℕ) (f : Field) → ((relation : RelationField) → key ≡ relation_key relation → IsRelation relation (value_of f)) → IsReadableAs (relation_kind key) f
relation_read key f good =
    let by = λ (relation : RelationField) (e : bytes_eq key (relation_key relation) ≡ true). good relation ((bytes_eq-Decides key (relation_key relation)).0 e) in
    chosen (bytes_eq key (relation_key Depends)) Depends _ f (by Depends)
    (chosen (bytes_eq key (relation_key PreDepends)) PreDepends _ f (by PreDepends)
    (chosen (bytes_eq key (relation_key Breaks)) Breaks _ f (by Breaks)
    (chosen (bytes_eq key (relation_key Conflicts)) Conflicts _ f (by Conflicts)
    (chosen (bytes_eq key (relation_key Provides)) Provides _ f (by Provides)
    (chosen (bytes_eq key (relation_key Replaces)) Replaces None f (by Replaces) tt)))))

control_read : (b : Bool) (key : List ℕ) (f : Field) → bytes_eq key (codes "essential") ≡ b → (key ≡ codes "essential" → IsYesOrNo f) → IsReadableAs (relation_kind key) f → IsReadableAs (cond b kind.YesOrNo (relation_kind key)) f
control_read true key f is essential other = essential ((bytes_eq-Decides key (codes "essential")).0 is)
control_read false key f is essential other = other

pub control_readable : (f : Field) → (lower f.name ≡ codes "essential" → IsYesOrNo f) → ((relation : RelationField) → lower f.name ≡ relation_key relation → IsRelation relation (value_of f)) → IsReadableControl f
control_readable f essential relations = control_read (bytes_eq (lower f.name) (codes "essential")) (lower f.name) f refl essential (relation_read (lower f.name) f relations)
