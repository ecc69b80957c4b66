-- The relation fields of a record can be read.
use Rattle.std.proofs.Common.{ℕ, List, [], ◌∷◌, ◌++◌, subst}
use Rattle.std.proofs.Math.Logic.{∥∥₁_map}
use Rattle.std.specs.List.{AllByRecursion}
use Rattle.control_fields.specs.Names.{value_of, IsFieldCalled}
use Rattle.control_fields.specs.declared.field.Field.{Field}
use Rattle.relation_fields.specs.RelationFields.{relation_key, IsRelation}
use Rattle.relation_fields.specs.declared.relation_field.RelationField.{RelationField}
use Rattle.relation_fields.specs.declared.relation_field.RelationField.TheVariants.{Depends, PreDepends, Breaks, Conflicts, Provides, Replaces}
use Rattle.status_records.specs.Values.{kind_of, IsReadable, IsReadableAs}
use Rattle.status_records.specs.declared.record.Record.{Record}

among : (P : Field → Type 0) (front rest : List Field) (f : Field) → AllByRecursion P (front ++ f ∷ rest) → P f
among P [] rest f all = all.0
among P (g ∷ front) rest f all = among P front rest f all.1

-- by the field's name alone
read_as : (field : RelationField) (f : Field) → IsReadableAs (kind_of (relation_key field)) f → IsRelation field (value_of f)
read_as Depends f readable = readable
read_as PreDepends f readable = readable
read_as Breaks f readable = readable
read_as Conflicts f readable = readable
read_as Provides f readable = readable
read_as Replaces f readable = readable

called_readable : (field : RelationField) (fields : List Field) (f : Field) → IsFieldCalled (relation_key field) fields f → AllByRecursion IsReadable fields → IsRelation field (value_of f)
called_readable field fields f called all =
    let readable = among IsReadable called.front called.rest f (subst (AllByRecursion IsReadable) called.is all) in
    read_as field f (subst (λ (key : List ℕ). IsReadableAs (kind_of key) f) called.named readable)

pub readable : (r : Record) (field : RelationField) (f : Field) → IsFieldCalled (relation_key field) r.fields f → ∥ IsRelation field (value_of f) ∥₁
readable r field f called = ∥∥₁_map r.writable (λ known. called_readable field r.fields f called known.readable)
