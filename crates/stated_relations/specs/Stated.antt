-- The relation fields of a paragraph together (Policy 7.1).
use Rattle.std.specs.Prelude.{List}
use Rattle.control_fields.specs.declared.field.Field.{Field}
use Rattle.relation_fields.specs.declared.relation_field.RelationField.{RelationField}
use Rattle.relation_fields.specs.declared.relation_field.RelationField.TheVariants.{PreDepends, Depends, Breaks, Conflicts, Replaces}
use Rattle.stated_relations.specs.Relations.{CanBeRead, StatesClauses, StatesProvides}
use Rattle.stated_relations.specs.declared.stated.StatedRelations.{StatedRelations}

-- each relation field that stands can be read
abbrev pub CanAllBeRead : List Field → Type 0
CanAllBeRead fields = (field : RelationField) → CanBeRead field fields

-- the six fields as they are read
pub record States (fields : List Field) (s : StatedRelations) : Type 0 where
  pub provides : StatesProvides fields s.provides
  pub pre_depends : StatesClauses PreDepends fields s.pre_depends
  pub depends : StatesClauses Depends fields s.depends
  pub breaks : StatesClauses Breaks fields s.breaks
  pub conflicts : StatesClauses Conflicts fields s.conflicts
  pub replaces : StatesClauses Replaces fields s.replaces
