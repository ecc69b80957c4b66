use Rattle.std.proofs.Common.{◌≡◌, ℕ, true, List, [], sym, ap, subst, ◌∙◌}
use Rattle.std.proofs.Props.{props}
use mathlib.Core.HLevel.{is_prop→PathP}
use Rattle.administration.specs.declared.scripts.Scripts.{Scripts}
use Rattle.control_fields.specs.Spelling.{AreFields}
use Rattle.control_fields.specs.declared.field.Field.{Field}
use Rattle.host_core.specs.Paths.{Path}
use Rattle.stated_relations.specs.Stated.{States}
use Rattle.stated_relations.specs.declared.stated.StatedRelations.{StatedRelations}
use Rattle.texts.specs.PackageNames.{is_package_name}
use Rattle.package_tree.specs.ControlFile.{IsReadable}
use Rattle.package_tree.specs.Package.{AreFitting}
use Rattle.package_tree.specs.declared.other_file.OtherFile.{OtherFile}
use Rattle.package_tree.specs.declared.package.Package.{Package}
use Rattle.package_tree.specs.declared.shipped.Shipped.{Shipped}
use Rattle.package_tree.proofs.package.Package.copy.Goals as goal

same : (name version : List ℕ) (control : List Field) (relations : StatedRelations) (scripts : Scripts) (others : List OtherFile) (files : List Shipped) (conffiles flagged : List Path)
    (named : is_package_name name ≡ true) (written : ∥ AreFields [] control ∥₁) (readable : ∥ IsReadable control ∥₁) (stated : ∥ States control relations ∥₁) (fitting : ∥ AreFitting files conffiles flagged ∥₁) (p : Package)
    → name ≡ p.name → version ≡ p.version → control ≡ p.control → relations ≡ p.relations → scripts ≡ p.scripts → others ≡ p.others → files ≡ p.files → conffiles ≡ p.conffiles → flagged ≡ p.flagged
    → record {
      name = name;
      version = version;
      control = control;
      relations = relations;
      scripts = scripts;
      others = others;
      files = files;
      conffiles = conffiles;
      flagged = flagged;
      ships = p.ships;
      has_conffiles = p.has_conffiles;
      named = named;
      written = written;
      readable = readable;
      stated = stated;
      fitting = fitting;
    } ≡ p
same name version control relations scripts others files conffiles flagged named written readable stated fitting p n v f r s o m c g = λ i. record {
  name = n i;
  version = v i;
  control = f i;
  relations = r i;
  scripts = s i;
  others = o i;
  files = m i;
  conffiles = c i;
  flagged = g i;
  ships = p.ships;
  has_conffiles = p.has_conffiles;
  named = is_prop→PathP (λ j. is_package_name (n j) ≡ true) (λ j. hlevel props) named p.named i;
  written = is_prop→PathP (λ j. ∥ AreFields [] (f j) ∥₁) (λ j. hlevel props) written p.written i;
  readable = is_prop→PathP (λ j. ∥ IsReadable (f j) ∥₁) (λ j. hlevel props) readable p.readable i;
  stated = is_prop→PathP (λ j. ∥ States (f j) (r j) ∥₁) (λ j. hlevel props) stated p.stated i;
  fitting = is_prop→PathP (λ j. ∥ AreFitting (m j) (c j) (g j) ∥₁) (λ j. hlevel props) fitting p.fitting i;
}

pub invariant_of-result : goal.invariant_of-result
invariant_of-result c =
    let p = c.args.self.now in
    record {
      named = ap is_package_name c.in_ok-copy.ensures ∙ p.named;
      written = subst (λ (fields : List Field). ∥ AreFields [] fields ∥₁) (sym c.in_ok-copy-3.ensures) p.written;
      readable = subst (λ (fields : List Field). ∥ IsReadable fields ∥₁) (sym c.in_ok-copy-3.ensures) p.readable;
      stated = subst (λ (fields : List Field). ∥ States fields c.in_ok-copy-4.field-0 ∥₁) (sym c.in_ok-copy-3.ensures)
          (subst (λ (relations : StatedRelations). ∥ States p.control relations ∥₁) (sym c.in_ok-copy-4.ensures) p.stated);
      fitting = subst (λ (m : List Shipped). ∥ AreFitting m c.in_ok-copy-7.field-0 c.in_ok-copy-8.field-0 ∥₁) (sym c.in_ok-copy-6.ensures)
          (subst (λ (l : List Path). ∥ AreFitting p.files l c.in_ok-copy-8.field-0 ∥₁) (sym c.in_ok-copy-7.ensures)
          (subst (λ (l : List Path). ∥ AreFitting p.files p.conffiles l ∥₁) (sym c.in_ok-copy-8.ensures) p.fitting));
    }

pub returns : goal.returns
returns c =
    same _ _ _ _ _ _ _ _ _ _ _ _ _ _ c.args.self.now c.in_ok-copy.ensures c.in_ok-copy-2.ensures c.in_ok-copy-3.ensures c.in_ok-copy-4.ensures c.in_ok-copy_scripts.ensures c.in_ok-copy-5.ensures c.in_ok-copy-6.ensures c.in_ok-copy-7.ensures c.in_ok-copy-8.ensures
