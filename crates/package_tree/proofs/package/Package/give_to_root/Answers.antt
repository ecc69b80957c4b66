use Rattle.std.proofs.Common.{◌≡◌, true, List, [], sym, subst}
use Rattle.std.proofs.Props.{props}
use mathlib.Core.HLevel.{is_prop→PathP}
use Rattle.control_fields.specs.Spelling.{AreFields}
use Rattle.stated_relations.specs.Stated.{States}
use Rattle.texts.specs.PackageNames.{is_package_name}
use Rattle.package_tree.specs.ControlFile.{IsReadable}
use Rattle.package_tree.specs.OwnedByRoot.{owned_by_root}
use Rattle.package_tree.specs.Owners.{root_files}
use Rattle.package_tree.specs.Package.{AreFitting}
use Rattle.package_tree.specs.RootFitting.{root_fitting}
use Rattle.package_tree.specs.declared.package.Package.{Package}
use Rattle.package_tree.specs.declared.shipped.Shipped.{Shipped}
use Rattle.package_tree.proofs.package.Package.give_to_root.Goals as goal

pub invariant_of-self : goal.invariant_of-self
invariant_of-self c =
    let p = c.args.self.now in
    record {
      named = p.named;
      written = p.written;
      readable = p.readable;
      stated = p.stated;
      fitting = subst (λ (files : List Shipped). ∥ AreFitting files p.conffiles p.flagged ∥₁) (sym c.give_to_root.ensures) (root_fitting p.files p.conffiles p.flagged p.fitting);
    }

-- what holds of a package has one proof
given : (p : Package) (files : List Shipped) (named : is_package_name p.name ≡ true) (written : ∥ AreFields [] p.control ∥₁) (readable : ∥ IsReadable p.control ∥₁) (stated : ∥ States p.control p.relations ∥₁)
    (fitting : ∥ AreFitting files p.conffiles p.flagged ∥₁) → files ≡ root_files p.files
    → record p { files = files; named = named; written = written; readable = readable; stated = stated; fitting = fitting } ≡ owned_by_root p
given p files named written readable stated fitting is = λ i. record p {
  files = is i;
  named = is_prop→PathP (λ j. is_package_name p.name ≡ true) (λ j. hlevel props) named p.named i;
  written = is_prop→PathP (λ j. ∥ AreFields [] p.control ∥₁) (λ j. hlevel props) written p.written i;
  readable = is_prop→PathP (λ j. ∥ IsReadable p.control ∥₁) (λ j. hlevel props) readable p.readable i;
  stated = is_prop→PathP (λ j. ∥ States p.control p.relations ∥₁) (λ j. hlevel props) stated p.stated i;
  fitting = is_prop→PathP (λ j. ∥ AreFitting (is j) p.conffiles p.flagged ∥₁) (λ j. hlevel props) fitting (root_fitting p.files p.conffiles p.flagged p.fitting) i;
}

pub returns : goal.returns
returns c = given c.args.self.now c.give_to_root.new.self _ _ _ _ _ c.give_to_root.ensures
