use Rattle.std.proofs.Common.{subst, List}
use Rattle.std.proofs.lemmas.Option.{MatchOption-at_some, MatchOption-at_none}
use Rattle.dependency_sets.specs.Choices.{IsFirst}
use Rattle.dependency_sets.specs.Sets.{has}
use Rattle.relation_fields.specs.declared.alternative.Alternative.{Alternative}
use Rattle.dependency_check.specs.Left.{IsUnmetAt, AreAllMet}
use Rattle.dependency_check.proofs.left.first_unmet.Goals as goal

pub returns-in-Some : goal.returns-in-Some
returns-in-Some c =
    let first = MatchOption-at_some (AreAllMet c.args.packages.now c.clauses-before.result.now (has c.args.installed.now)) (IsFirst (IsUnmetAt c.args.packages.now c.clauses-before.result.now (has c.args.installed.now))) c.in-Some.place c.in-Some.is c.in_ok-found_before.ensures in
    subst (λ (l : List (List Alternative)). IsFirst (IsUnmetAt c.args.packages.now l (has c.args.installed.now)) c.in-Some.place) c.clauses-before.ensures first

pub returns-in-Some-found_after : goal.returns-in-Some-found_after
returns-in-Some-found_after c =
    let none = MatchOption-at_none (AreAllMet c.args.packages.now c.clauses-before.result.now (has c.args.installed.now)) (IsFirst (IsUnmetAt c.args.packages.now c.clauses-before.result.now (has c.args.installed.now))) c.in_default.is c.in_ok-found_before.ensures in
    let first = MatchOption-at_some (AreAllMet c.args.packages.now c.clauses-after.result.now (has c.args.installed.now)) (IsFirst (IsUnmetAt c.args.packages.now c.clauses-after.result.now (has c.args.installed.now))) c.in-Some-found_after.place c.in-Some-found_after.is c.in_ok-found_after.ensures in (
      subst (λ (l : List (List Alternative)). AreAllMet c.args.packages.now l (has c.args.installed.now)) c.clauses-before.ensures none,
      subst (λ (l : List (List Alternative)). IsFirst (IsUnmetAt c.args.packages.now l (has c.args.installed.now)) c.in-Some-found_after.place) c.clauses-after.ensures first,
    )

pub returns-in-None : goal.returns-in-None
returns-in-None c =
    let none = MatchOption-at_none (AreAllMet c.args.packages.now c.clauses-before.result.now (has c.args.installed.now)) (IsFirst (IsUnmetAt c.args.packages.now c.clauses-before.result.now (has c.args.installed.now))) c.in_default.is c.in_ok-found_before.ensures in
    let later = MatchOption-at_none (AreAllMet c.args.packages.now c.clauses-after.result.now (has c.args.installed.now)) (IsFirst (IsUnmetAt c.args.packages.now c.clauses-after.result.now (has c.args.installed.now))) c.in-None.is c.in_ok-found_after.ensures in (
      subst (λ (l : List (List Alternative)). AreAllMet c.args.packages.now l (has c.args.installed.now)) c.clauses-before.ensures none,
      subst (λ (l : List (List Alternative)). AreAllMet c.args.packages.now l (has c.args.installed.now)) c.clauses-after.ensures later,
    )
