use Rattle.std.proofs.Common.{◌≡◌, ◌∙◌, true, List, [], sym, subst, ap}
use Rattle.std.proofs.Props.{props}
use mathlib.Core.HLevel.{is_prop→PathP}
use Rattle.control_fields.specs.Spelling.{AreFields}
use Rattle.stated_relations.specs.Stated.{States}
use Rattle.texts.specs.PackageNames.{is_package_name}
use Rattle.package_tree.specs.ControlFile.{IsReadable}
use Rattle.package_tree.specs.Package.{AreFitting}
use Rattle.package_tree.specs.ShipMap.{paths_of}
use Rattle.package_tree.specs.Shipped.{AreInOrder}
use Rattle.package_tree.specs.declared.package.Package.{Package}
use Rattle.package_tree.specs.declared.shipped.Shipped.{Shipped}
use Rattle.stat_overrides.specs.Fitting.{overridden_files, overridden_fitting, overridden_paths}
use Rattle.stat_overrides.specs.Packages.{overridden}
use Rattle.stat_overrides.specs.declared.table.Overrides.{Overrides}
use Rattle.stat_overrides.proofs.packages.override_accesses.Goals as goal

pub new-requires : goal.new-requires
new-requires c =
    let files = c.args.package.files in
    subst AreInOrder (sym (ap paths_of (c.override_files.ensures ∙ ap (overridden_files c.args.overrides.now) c.into_vec-items.ensures) ∙ overridden_paths c.args.overrides.now files)) c.law.ensures

pub invariant_of-result : goal.invariant_of-result
invariant_of-result c =
    let p = c.args.package in
    let is : c.new.result ≡ overridden_files c.args.overrides.now p.files = c.new.ensures ∙ c.override_files.ensures ∙ ap (overridden_files c.args.overrides.now) c.into_vec-items.ensures in
    record {
      named = p.named;
      written = p.written;
      readable = p.readable;
      stated = p.stated;
      fitting = subst (λ (files : List Shipped). ∥ AreFitting files p.conffiles p.flagged ∥₁) (sym is) (overridden_fitting c.args.overrides.now p.files p.conffiles p.flagged p.fitting);
    }

-- what holds of a package has one proof
given : (o : Overrides) (p : Package) (files : List Shipped) (named : is_package_name p.name ≡ true) (written : ∥ AreFields [] p.control ∥₁) (readable : ∥ IsReadable p.control ∥₁) (stated : ∥ States p.control p.relations ∥₁)
    (fitting : ∥ AreFitting files p.conffiles p.flagged ∥₁) → files ≡ overridden_files o p.files
    → record p { files = files; named = named; written = written; readable = readable; stated = stated; fitting = fitting } ≡ overridden o p
given o p files named written readable stated fitting is = λ i. record p {
  files = is i;
  named = is_prop→PathP (λ j. is_package_name p.name ≡ true) (λ j. hlevel props) named p.named i;
  written = is_prop→PathP (λ j. ∥ AreFields [] p.control ∥₁) (λ j. hlevel props) written p.written i;
  readable = is_prop→PathP (λ j. ∥ IsReadable p.control ∥₁) (λ j. hlevel props) readable p.readable i;
  stated = is_prop→PathP (λ j. ∥ States p.control p.relations ∥₁) (λ j. hlevel props) stated p.stated i;
  fitting = is_prop→PathP (λ j. ∥ AreFitting (is j) p.conffiles p.flagged ∥₁) (λ j. hlevel props) fitting (overridden_fitting o p.files p.conffiles p.flagged p.fitting) i;
}

pub returns : goal.returns
returns c = given c.args.overrides.now c.args.package c.new.result _ _ _ _ _ (c.new.ensures ∙ c.override_files.ensures ∙ ap (overridden_files c.args.overrides.now) c.into_vec-items.ensures)
