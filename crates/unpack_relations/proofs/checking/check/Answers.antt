use Rattle.std.proofs.Common.{◌≡◌, ℕ, List, Option, None, ap, sym, subst, ◌∙◌}
use Rattle.std.specs.Prelude.{option_copied}
use Rattle.recorded_packages.specs.Packages.{root_architecture}
use Rattle.stated_relations.specs.Relations.{architecture_of}
use Rattle.unpack_relations.specs.Checks.{AreBesideApart, IsCheckedUnless, other_architecture}
use Rattle.unpack_relations.specs.Incoming.{IsIncomingPackage}
use Rattle.unpack_relations.proofs.checking.check.Goals as goal

pub returns-clause-checked : goal.returns-clause-checked
returns-clause-checked c = λ records are.
    let root = c.root_architecture-root.ensures records are in
    let tree = c.args.incoming.now in
    let own = architecture_of tree.control in
    let told : other_architecture (root_architecture records) own ≡ None =
    ap (λ (r : Option (List ℕ)). other_architecture r own) (sym root) ∙ ap (other_architecture (option_copied c.root_architecture-root.result)) (sym c.architecture_of.ensures)
    ∙ sym c.other_architecture.ensures ∙ ap option_copied c.in_default.is
    in
    subst (λ (o : Option (List ℕ)). IsCheckedUnless o records tree c.args.options c.in_ok-checked.checked) (sym told) (
      c.args.packages.now,
      c.in_ok-package.package,
      are,
      subst (λ (r : Option (List ℕ)). IsIncomingPackage r tree c.in_ok-package.package) root c.in_ok-package.ensures,
      c.in_ok-checked.ensures.checked,
    )

pub returns-clause-apart : goal.returns-clause-apart
returns-clause-apart c = λ records are.
    subst (λ (n : List ℕ). AreBesideApart n records c.in_ok-checked.checked) c.in_ok-package.ensures.name (c.in_ok-checked.ensures.apart records are)
