use Rattle.std.proofs.Common.{ℕ, subst, List}
use Rattle.std.specs.Prelude.{MatchOption}
use Rattle.std.proofs.lemmas.Option.{MatchOption-at_some, MatchOption-at_none}
use Rattle.dependency_sets.specs.Choices.{IsFirst}
use Rattle.relation_fields.specs.declared.alternative.Alternative.{Alternative}
use Rattle.relation_index.specs.declared.package.Package.{Package}
use Rattle.dependency_check.specs.Unpack.{IsUnmetBeforehand, DoAllYield, IsNoneEssential, IsRefusedConflict}
use Rattle.dependency_check.proofs.UnpackLaws.{conflict_is}
use Rattle.dependency_check.proofs.unpack.always_refused.Goals as goal

pub returns-in-Some : goal.returns-in-Some
returns-in-Some c =
    let first = MatchOption-at_some ((k : ℕ) → IsUnmetBeforehand c.args.packages.now c.clauses-before.result.now k → ⊥) (IsFirst (IsUnmetBeforehand c.args.packages.now c.clauses-before.result.now)) c.in-Some.place c.in-Some.is c.in_ok-unmet.ensures in
    subst (λ (l : List (List Alternative)). IsFirst (IsUnmetBeforehand c.args.packages.now l) c.in-Some.place) c.clauses-before.ensures first

pub returns : goal.returns
returns c =
    let none = MatchOption-at_none ((k : ℕ) → IsUnmetBeforehand c.args.packages.now c.clauses-before.result.now k → ⊥) (IsFirst (IsUnmetBeforehand c.args.packages.now c.clauses-before.result.now)) c.in_default.is c.in_ok-unmet.ensures in
    conflict_is c.args.packages.now c.args.incoming.now c.refused_conflict-refused.result
    (subst (λ (l : List (List Alternative)). (k : ℕ) → IsUnmetBeforehand c.args.packages.now l k → ⊥) c.clauses-before.ensures none)
    (subst (λ (p : List Package). MatchOption c.refused_conflict-refused.result (DoAllYield p c.args.incoming.now × IsNoneEssential p c.args.incoming.now) (IsRefusedConflict p c.args.incoming.now)) c.as_slice.ensures.list c.refused_conflict-refused.ensures)
