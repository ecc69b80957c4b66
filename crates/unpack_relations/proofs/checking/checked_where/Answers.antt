use Rattle.std.proofs.Common.{◌≡◌, List, ℕ, ap, false, subst, sym, true}
use Rattle.relation_index.specs.declared.package.Package.{Package}
use Rattle.unpack_relations.proofs.Unheeded.{checked_with}
use Rattle.unpack_relations.specs.Checks.{AreBesideApart, IsCheckedBy, without_pre_depends}
use Rattle.unpack_relations.proofs.checking.checked_where.Goals as goal

pub checked_ignoring-requires : goal.checked_ignoring-requires
checked_ignoring-requires c = ap (λ (p : Package). p.pre_depends) c.in_ok-package.ensures

pub returns-then-options-clause-checked : goal.returns-then-options-clause-checked
returns-then-options-clause-checked c =
    let packages = c.args.packages.now in
    let incoming = c.args.incoming in
    let auto = c.args.options.auto_deconfigure in
    let checked = c.in_ok-ignoring.ignoring in
    subst (λ b. IsCheckedBy b packages incoming auto checked) (sym c.if-options.true)
    (checked_with packages incoming auto checked (subst (λ (p : Package). IsCheckedBy true packages p auto checked) c.in_ok-package.ensures c.in_ok-ignoring.ensures.checked))

pub returns-then-options-clause-apart : goal.returns-then-options-clause-apart
returns-then-options-clause-apart c = λ records are.
    subst (λ (p : Package). AreBesideApart p.name records c.in_ok-ignoring.ignoring) c.in_ok-package.ensures (c.in_ok-ignoring.ensures.apart records are)

pub returns-clause-checked : goal.returns-clause-checked
returns-clause-checked c =
    subst (λ b. IsCheckedBy b c.args.packages.now c.args.incoming c.args.options.auto_deconfigure c.in_ok-heeding.heeding) (sym c.if-options.false) c.in_ok-heeding.ensures.checked

pub returns-clause-apart : goal.returns-clause-apart
returns-clause-apart c = c.in_ok-heeding.ensures.apart
