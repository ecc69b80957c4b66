use Rattle.std.proofs.Common.{List, take}
use Rattle.std.specs.List.{Contains}
use Rattle.relation_fields.specs.declared.alternative.Alternative.{Alternative}
use Rattle.relation_index.specs.Packages.{Meets}
use Rattle.dependency_check.specs.Deconfigured.{IsLost}
use Rattle.dependency_check.proofs.dependents.loses_one_by.Given as goal

abbrev pub invariant-loop-clause : goal.invariant-loop-clause
invariant-loop-clause l = (x : List Alternative) → Contains (take l.clause-index l.clauses) x → Meets x l.packages l.number × IsLost l.packages l.incoming x → ⊥
