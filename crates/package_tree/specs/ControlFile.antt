-- The control file of a package (Policy 5.3): the fields that a tree's reading looks at.
use Rattle.std.specs.Prelude.{◌≡◌, ◌≢◌, ◌⊎◌, true, false, ℕ, List, [], ◌∷◌, ◌++◌, codes}
use Rattle.std.specs.List.{AllByRecursion}
use Rattle.control_fields.specs.Names.{is_called, value_of, IsFieldCalled, IsYesOrNo}
use Rattle.control_fields.specs.Grammar.{ReadsOne, lines_of}
use Rattle.control_fields.specs.Faults.{IsFaultOfOne}
use Rattle.control_fields.specs.declared.field.Field.{Field}
use Rattle.control_fields.specs.declared.fault.ControlFault.TheVariants as control
use Rattle.version_order.specs.Versions.{IsVersion}
use Rattle.relation_fields.specs.RelationFields.{relation_key, IsRelation}
use Rattle.relation_fields.specs.declared.relation_field.RelationField.{RelationField}
use Rattle.relation_fields.specs.declared.relation_field.RelationField.TheVariants.{Depends, PreDepends, Breaks, Conflicts, Provides, Replaces}
use Rattle.texts.specs.PackageNames.{is_package_name}
use Rattle.package_tree.specs.declared.fault.FieldName.{FieldName}
use Rattle.package_tree.specs.declared.fault.FieldName.TheVariants.{Package, Version, Essential, Relation}
use Rattle.package_tree.specs.declared.fault.TreeFault.{TreeFault}
use Rattle.package_tree.specs.declared.fault.TreeFault.TheVariants as tree

-- the field's name in lower case; names are compared without regard to case (Policy 5.1)
abbrev pub key_of : FieldName → List ℕ
key_of Package = codes "package"
key_of Version = codes "version"
key_of Essential = codes "essential"
key_of (Relation field) = relation_key field

-- A package name (Policy 5.6.7) and a version (5.6.12) stand on one line (5.1, simple fields), as does `yes` or `no`
-- (5.6.9). Relations may go on over several lines (7.1).
abbrev pub IsGoodField : FieldName → Field → Type 0
IsGoodField Package field = (field.more ≡ []) × (is_package_name field.first ≡ true)
IsGoodField Version field = (field.more ≡ []) × IsVersion field.first
IsGoodField Essential field = IsYesOrNo field
IsGoodField (Relation relation) field = IsRelation relation (value_of field)

-- the paragraph has the field
abbrev pub HasField : FieldName → List Field → Type 0
HasField name paragraph = (field : Field) × IsFieldCalled (key_of name) paragraph field

-- it hasn't
abbrev pub LacksField : FieldName → List Field → Type 0
LacksField name paragraph = is_called (key_of name) paragraph ≡ false

-- the paragraph has the field with this value, which is good
pub record HasValue (name : FieldName) (paragraph : List Field) (value : List ℕ) : Type 0 where
  pub field : Field
  pub called : IsFieldCalled (key_of name) paragraph field
  pub is : field.first ≡ value
  pub good : IsGoodField name field

-- the paragraph has the field, with a value that isn't good
pub record HasBadValue (name : FieldName) (paragraph : List Field) : Type 0 where
  pub field : Field
  pub called : IsFieldCalled (key_of name) paragraph field
  pub bad : IsGoodField name field → ⊥

-- where the field stands, its value is good
abbrev pub HasNoBad : FieldName → List Field → Type 0
HasNoBad name paragraph = LacksField name paragraph ⊎ ((value : List ℕ) × HasValue name paragraph value)

-- the relation fields, in the order in which they are looked at
abbrev pub relation_order : List RelationField
relation_order = Depends ∷ PreDepends ∷ Breaks ∷ Conflicts ∷ Provides ∷ Replaces ∷ []

abbrev pub HasNoBadRelation : List RelationField → List Field → Type 0
HasNoBadRelation relations paragraph = AllByRecursion (λ relation. HasNoBad (Relation relation) paragraph) relations

-- Essential and the relation fields can be read, where they stand
abbrev pub IsReadable : List Field → Type 0
IsReadable paragraph = HasNoBad Essential paragraph × HasNoBadRelation relation_order paragraph

-- this is the first of some relation fields whose value isn't good
pub record IsFirstBadRelation (relations : List RelationField) (paragraph : List Field) (relation : RelationField) : Type 0 where
  pub front : List RelationField
  pub rest : List RelationField
  pub is : relations ≡ front ++ relation ∷ rest
  pub good : HasNoBadRelation front paragraph
  pub bad : HasBadValue (Relation relation) paragraph

-- a paragraph with this Package and Version, in which nothing that is looked at is wrong
pub record HasGoodFields (paragraph : List Field) (name version : List ℕ) : Type 0 where
  pub named : HasValue Package paragraph name
  pub versioned : HasValue Version paragraph version
  pub essential : HasNoBad Essential paragraph
  pub relations : HasNoBadRelation relation_order paragraph

-- a field that must stand is missing, the first of Package and Version
abbrev pub IsMissing : FieldName → List Field → Type 0
IsMissing Package paragraph = LacksField Package paragraph
IsMissing Version paragraph = HasField Package paragraph × LacksField Version paragraph
IsMissing Essential paragraph = ⊥
IsMissing (Relation relation) paragraph = ⊥

-- none is missing, and this is the first of Package, Version, Essential and the relation fields whose value isn't good
abbrev pub IsFirstBad : FieldName → List Field → Type 0
IsFirstBad Package paragraph = HasField Version paragraph × HasBadValue Package paragraph
IsFirstBad Version paragraph = ((name : List ℕ) × HasValue Package paragraph name) × HasBadValue Version paragraph
IsFirstBad Essential paragraph = ((name : List ℕ) × HasValue Package paragraph name) × ((version : List ℕ) × HasValue Version paragraph version) × HasBadValue Essential paragraph
IsFirstBad (Relation relation) paragraph = ((name : List ℕ) × HasValue Package paragraph name) × ((version : List ℕ) × HasValue Version paragraph version) × HasNoBad Essential paragraph × IsFirstBadRelation relation_order paragraph relation

-- what is wrong with a paragraph's fields
abbrev pub IsFieldFault : List Field → TreeFault → Type 0
IsFieldFault paragraph tree.Twice = ⊥
IsFieldFault paragraph (tree.NoRoom path) = ⊥
IsFieldFault paragraph tree.NoControl = ⊥
IsFieldFault paragraph (tree.Control fault) = ⊥
IsFieldFault paragraph (tree.FieldMissing name) = IsMissing name paragraph
IsFieldFault paragraph (tree.FieldBad name) = IsFirstBad name paragraph
IsFieldFault paragraph (tree.PathBad path) = ⊥
IsFieldFault paragraph (tree.Reserved path) = ⊥
IsFieldFault paragraph (tree.ConffileNotShipped name) = ⊥
IsFieldFault paragraph (tree.ConffileShipped path) = ⊥
IsFieldFault paragraph (tree.ConffileFlag line) = ⊥
IsFieldFault paragraph (tree.TooLarge path) = ⊥
IsFieldFault paragraph tree.TooMany = ⊥
IsFieldFault paragraph tree.Device = ⊥
IsFieldFault paragraph tree.NoMemory = Unit {0}
IsFieldFault paragraph tree.Declined = ⊥

-- the text of a control file is this paragraph, with this Package and Version
pub record IsControlText (text : List ℕ) (paragraph : List Field) (name version : List ℕ) : Type 0 where
  pub reads : ReadsOne (lines_of text) paragraph
  pub fields : HasGoodFields paragraph name version

-- what is wrong with the text of a control file
abbrev pub IsTextFault : List ℕ → TreeFault → Type 0
IsTextFault text tree.Twice = ⊥
IsTextFault text (tree.NoRoom path) = ⊥
IsTextFault text tree.NoControl = ⊥
IsTextFault text (tree.Control fault) = IsFaultOfOne (lines_of text) fault × (fault ≢ control.NoMemory)
IsTextFault text (tree.FieldMissing name) = (paragraph : List Field) × ReadsOne (lines_of text) paragraph × IsMissing name paragraph
IsTextFault text (tree.FieldBad name) = (paragraph : List Field) × ReadsOne (lines_of text) paragraph × IsFirstBad name paragraph
IsTextFault text (tree.PathBad path) = ⊥
IsTextFault text (tree.Reserved path) = ⊥
IsTextFault text (tree.ConffileNotShipped name) = ⊥
IsTextFault text (tree.ConffileShipped path) = ⊥
IsTextFault text (tree.ConffileFlag line) = ⊥
IsTextFault text (tree.TooLarge path) = ⊥
IsTextFault text tree.TooMany = ⊥
IsTextFault text tree.Device = ⊥
IsTextFault text tree.NoMemory = Unit {0}
IsTextFault text tree.Declined = ⊥
