-- Relation fields as dpkg writes them where it records a package.
use Rattle.std.specs.Prelude.{◌≡◌, ℕ, Bool, List, [], ◌∷◌, ◌++◌, Option, Some, None, ◌&&◌, nat_lt, codes, if◌then◌else◌}
use Rattle.std.specs.Str.{bytes_eq}
use Rattle.relation_fields.specs.Grammar.{Reads}
use Rattle.relation_fields.specs.Printing.{print_clause}
use Rattle.relation_fields.specs.RelationFields.{relation_called, field_rules}
use Rattle.relation_fields.specs.declared.alternative.Alternative.{Alternative}
use Rattle.relation_fields.specs.declared.reading.Rules.{Rules}
use Rattle.relation_fields.specs.declared.reading.Rules.TheVariants as rules
use Rattle.relation_fields.specs.declared.relation_field.RelationField.{RelationField}

-- dpkg writes a relation field on one line: a comma and a blank stand between two clauses. A version stays as it is
-- written, where dpkg leaves out an epoch of 0
abbrev pub print_clauses : List (List Alternative) → List ℕ
print_clauses [] = []
print_clauses (c ∷ []) = print_clause c
print_clauses (c ∷ d ∷ cs) = print_clause c ++ (codes ", " ++ print_clauses (d ∷ cs))

-- the weaker relations (Policy 7.2), of which nothing is asked here, by their names in lower case: alternatives where
-- Policy 7.1 has them; dpkg takes them in Enhances too
abbrev pub weaker_rules : List ℕ → Option Rules
weaker_rules key =
    if bytes_eq key (codes "recommends") then Some rules.Alternatives
    else if bytes_eq key (codes "suggests") then Some rules.Alternatives
    else if bytes_eq key (codes "enhances") then Some rules.Alternatives
    else None

-- the rules of a field that is asked for, else those of a weaker one
abbrev pub rules_or_weaker : Option RelationField → List ℕ → Option Rules
rules_or_weaker (Some field) key = Some (field_rules field)
rules_or_weaker None key = weaker_rules key

-- how a field of this name is read, which is given in lower case
abbrev pub rules_called : List ℕ → Option Rules
rules_called key = rules_or_weaker (relation_called key) key

-- a value of such a field, as dpkg writes it
pub record IsOneLine (key value text : List ℕ) : Type 0 where
  pub rules : Rules
  pub called : rules_called key ≡ Some rules
  pub clauses : List (List Alternative)
  pub reads : Reads rules value clauses
  pub written : text ≡ print_clauses clauses

-- a printed sign of ASCII, or a blank
abbrev pub is_printed : ℕ → Bool
is_printed byte = nat_lt 31 byte && nat_lt byte 127
