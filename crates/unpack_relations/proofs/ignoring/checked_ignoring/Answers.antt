use Rattle.std.proofs.Common.{List, subst}
use Rattle.relation_index.specs.declared.package.Package.{Package}
use Rattle.unpack_relations.proofs.Apart.{checked_apart}
use Rattle.unpack_relations.specs.Checks.{IsCheckedBy}
use Rattle.unpack_relations.proofs.ignoring.checked_ignoring.Goals as goal
use Rattle.std.proofs.Common.{true}

pub returns-in_ok-checked-in-Ok-clause-checked : goal.returns-in_ok-checked-in-Ok-clause-checked
returns-in_ok-checked-in-Ok-clause-checked c =
    subst (λ (l : List Package). IsCheckedBy true l c.args.incoming.now c.args.auto_deconfigure c.in_ok-checked-in-Ok.checked) c.as_slice-list.ensures.list c.in_ok-checked-in-Ok.ensures

pub returns-in_ok-checked-in-Ok-clause-apart : goal.returns-in_ok-checked-in-Ok-clause-apart
returns-in_ok-checked-in-Ok-clause-apart c = λ records are.
    checked_apart records c.args.packages.now c.args.incoming.now true c.args.auto_deconfigure c.in_ok-checked-in-Ok.checked c.as_slice-list.ensures.ordered are
    (subst (λ (l : List Package). IsCheckedBy true l c.args.incoming.now c.args.auto_deconfigure c.in_ok-checked-in-Ok.checked) c.as_slice-list.ensures.list c.in_ok-checked-in-Ok.ensures)
