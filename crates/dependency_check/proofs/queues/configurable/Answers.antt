use Rattle.std.proofs.Common.{subst, sym, List}
use Rattle.dependency_sets.specs.Sets.{has}
use Rattle.dependency_sets.specs.declared.clause.Clause.{Clause}
use Rattle.relation_index.specs.Packages.{AreClauses}
use Rattle.dependency_check.proofs.QueueLaws.{configurable_is}
use Rattle.dependency_check.proofs.queues.configurable.Goals as goal

pub returns : goal.returns
returns c x =
    let z = subst (λ (l : List Clause). AreClauses c.args.packages.now l) (sym c.as_slice-list.ensures.value) c.in_ok-clauses.ensures in
    let is = configurable_is c.args.packages.now c.as_slice-list.result.now z (has c.args.installed.now) (has c.args.waiting.now) x in
    let by_number = c.in_ok-members.ensures x in
    (λ t. is.0 (by_number.0 t), λ w. by_number.1 (is.1 w))
