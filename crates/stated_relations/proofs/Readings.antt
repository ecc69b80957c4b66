-- A text that has a reading has no fault but want of memory, and an empty text states nothing.
use Rattle.std.proofs.Common.{◌≡◌, ◌≢◌, ℕ, List, [], refl}
use Rattle.std.proofs.Props.{props}
use Rattle.std.proofs.Math.Logic.{∥∥₁_elim}
use Rattle.relation_fields.specs.Faults.{IsFaultOf}
use Rattle.relation_fields.specs.Grammar.{Reads, start}
use Rattle.relation_fields.specs.RelationFields.{field_rules, IsRelation}
use Rattle.relation_fields.specs.declared.alternative.Alternative.{Alternative}
use Rattle.relation_fields.specs.declared.fault.RelationFault.{RelationFault}
use Rattle.relation_fields.specs.declared.fault.RelationFault.TheVariants.{NoMemory}
use Rattle.relation_fields.specs.declared.reading.Rules.{Rules}
use Rattle.relation_fields.specs.declared.relation_field.RelationField.{RelationField}

-- the law of reading, by which a text with a reading has no fault
abbrev pub HasNoFault : Type 0
HasNoFault = (rules : Rules) (bytes : List ℕ) (clauses : List (List Alternative)) (fault : RelationFault) → Reads rules bytes clauses → IsFaultOf rules bytes fault → fault ≡ NoMemory

pub memory_alone : (field : RelationField) (value : List ℕ) (fault : RelationFault) → HasNoFault → ∥ IsRelation field value ∥₁ → IsFaultOf (field_rules field) value fault → fault ≢ NoMemory → ⊥
memory_alone field value fault law readable is other = ∥∥₁_elim readable (hlevel props) (λ reads. other (law (field_rules field) value reads.0 fault reads.1 is))

-- an empty text has no clauses
pub reads_nothing : (rules : Rules) → Reads rules [] []
reads_nothing rules = (start [], (0, refl), refl)
