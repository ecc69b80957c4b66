-- Which fields of a status paragraph a record keeps.
use Rattle.std.specs.Prelude.{ℕ, Bool, not, List, [], ◌∷◌, codes, filter}
use Rattle.std.specs.List.{list_any}
use Rattle.std.specs.Str.{bytes_eq}
use Rattle.control_fields.specs.Names.{lower}
use Rattle.control_fields.specs.declared.field.Field.{Field}

-- the fields that a record has of its own
abbrev pub own_names : List (List ℕ)
own_names = codes "package" ∷ codes "status" ∷ codes "version" ∷ codes "config-version" ∷ codes "removed-since" ∷ codes "conffiles" ∷ codes "new-conffiles" ∷ codes "triggers-pending" ∷ codes "triggers-awaited" ∷ []

-- the field has one of the names, in any case
abbrev pub is_one_of : List (List ℕ) → Field → Bool
is_one_of names field = list_any (bytes_eq (lower field.name)) names

-- the fields with none of the names, in their order
abbrev pub fields_but : List (List ℕ) → List Field → List Field
fields_but names fields = filter (λ f. not (is_one_of names f)) fields

-- what a record keeps of a status paragraph, beside what it has of its own
abbrev pub recorded_fields : List Field → List Field
recorded_fields fields = fields_but own_names fields
