-- What a package's fields say of other packages (Policy 7.1 to 7.6), of its architecture (5.6.8), and whether it is essential
-- (Policy 3.8).
use Rattle.std.specs.Prelude.{◌≡◌, ◌⊎◌, ◌&&◌, ℕ, Bool, false, not, cond, List, [], ◌∷◌, Option, Some, None, option_and_then, codes, if◌then◌else◌}
use Rattle.std.specs.List.{list_any}
use Rattle.std.specs.Str.{bytes_eq}
use Rattle.control_fields.specs.Names.{lower, is_called, trim_end, value_of, IsFieldCalled}
use Rattle.control_fields.specs.declared.field.Field.{Field}
use Rattle.relation_fields.specs.Architectures.{is_architecture}
use Rattle.relation_fields.specs.Entries.{ReadsProvides}
use Rattle.relation_fields.specs.Grammar.{Reads}
use Rattle.relation_fields.specs.RelationFields.{relation_key, field_rules, IsRelation}
use Rattle.relation_fields.specs.declared.alternative.Alternative.{Alternative}
use Rattle.relation_fields.specs.declared.provides.Provided.{Provided}
use Rattle.relation_fields.specs.declared.relation_field.RelationField.{RelationField}
use Rattle.relation_fields.specs.declared.relation_field.RelationField.TheVariants as relation

-- the field of this name, given in lower case, has this value
abbrev pub HasValue : List ℕ → List Field → List ℕ → Type 0
HasValue key fields value = (f : Field) × IsFieldCalled key fields f × (value ≡ value_of f)

-- where the field stands, its value can be read
abbrev pub CanBeRead : RelationField → List Field → Type 0
CanBeRead field fields = (f : Field) → IsFieldCalled (relation_key field) fields f → ∥ IsRelation field (value_of f) ∥₁

-- the clauses of a relation field as they are read; without the field there are none
abbrev pub StatesClauses : RelationField → List Field → List (List Alternative) → Type 0
StatesClauses field fields clauses =
    ((value : List ℕ) × HasValue (relation_key field) fields value × Reads (field_rules field) value clauses)
    ⊎ ((is_called (relation_key field) fields ≡ false) × (clauses ≡ []))

-- the entries of Provides as they are read; without the field there are none
abbrev pub StatesProvides : List Field → List Provided → Type 0
StatesProvides fields entries =
    ((value : List ℕ) × HasValue (relation_key relation.Provides) fields value × ReadsProvides value entries)
    ⊎ ((is_called (relation_key relation.Provides) fields ≡ false) × (entries ≡ []))

-- what stands on the own line of the field Architecture (Policy 5.6.8), without the blanks at its end
abbrev pub architecture_line : List Field → Option (List ℕ)
architecture_line [] = None
architecture_line (f ∷ fs) = cond (bytes_eq (lower f.name) (codes "architecture")) (Some (trim_end f.first)) (architecture_line fs)

-- an architecture; a package of `all` fits each, and so does one of which the field says nothing
abbrev pub one_architecture : List ℕ → Option (List ℕ)
one_architecture word = if is_architecture word && not (bytes_eq word (codes "all")) then Some word else None

-- the architecture of a package, where it doesn't fit each
abbrev pub architecture_of : List Field → Option (List ℕ)
architecture_of fields = option_and_then one_architecture (architecture_line fields)

-- the architecture as which a package counts in a root: its own, else that of the root
abbrev pub counted_as : Option (List ℕ) → Option (List ℕ) → Option (List ℕ)
counted_as root None = root
counted_as root (Some own) = Some own

-- the field Essential with the value `yes` (Policy 5.6.9)
abbrev pub says_essential : Field → Bool
says_essential field = bytes_eq (lower field.name) (codes "essential") && bytes_eq field.first (codes "yes")

abbrev pub is_essential : List Field → Bool
is_essential fields = list_any says_essential fields
