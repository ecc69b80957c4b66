-- Which records have a written form.
use Rattle.std.specs.Prelude.{◌≡◌, ℕ, true, false, List, []}
use Rattle.std.specs.List.{AllByRecursion}
use Rattle.control_fields.specs.declared.field.Field.{Field}
use Rattle.control_fields.specs.Spelling.{AreFields}
use Rattle.texts.specs.PackageNames.{is_package_name}
use Rattle.status_records.specs.Fields.{own_names, is_one_of}
use Rattle.status_records.specs.Values.{IsReadable}

-- The name is one of a package. The other fields can be written, none has the name of a field of the record's own, and their
-- values can be read again.
pub record IsWritable (name : List ℕ) (fields : List Field) : Type 0 where
  pub named : is_package_name name ≡ true
  pub written : AreFields [] fields
  pub others : AllByRecursion (λ f. is_one_of own_names f ≡ false) fields
  pub readable : AllByRecursion IsReadable fields
