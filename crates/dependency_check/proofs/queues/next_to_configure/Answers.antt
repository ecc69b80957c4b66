use Rattle.std.proofs.Common.{subst, sym, List}
use Rattle.dependency_sets.specs.Sets.{has}
use Rattle.dependency_sets.specs.declared.clause.Clause.{Clause}
use Rattle.relation_index.specs.Packages.{AreClauses}
use Rattle.dependency_check.proofs.QueueLaws.{configured_next_is}
use Rattle.dependency_check.proofs.queues.next_to_configure.Goals as goal

pub returns : goal.returns
returns c =
    let z = subst (λ (l : List Clause). AreClauses c.args.packages.now l) (sym c.as_slice-list.ensures.value) c.in_ok-clauses.ensures in
    configured_next_is c.args.packages.now c.as_slice-list.result.now z (has c.args.installed.now) (has c.args.members.now) (has c.args.silent.now) c.in_ok-next.next c.in_ok-next.ensures
