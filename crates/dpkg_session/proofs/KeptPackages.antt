-- What a session keeps of the packages of the records has one proof at most; so it is what the units ask for.
use Rattle.std.proofs.Common.{List, Option, Some, None, ap, refl, subst}
use Rattle.std.proofs.Math.Logic.{∥∥₁_elim}
use Rattle.std.specs.Option.{ForSome}
use Rattle.std.specs.Prelude.{IfSome}
use Rattle.relation_index.specs.declared.package.Package.{Package}
use Rattle.status_records.specs.declared.record.Record.{Record}
use Rattle.recorded_packages.specs.Packages.{ArePackagesOf}
use Rattle.recorded_packages.proofs.OneTable.{packages_once}

pub packages_known : (records : List Record) (packages : Option (List Package)) → ForSome packages (λ p. ∥ ArePackagesOf records p ∥₁) → IfSome packages (ArePackagesOf records)
packages_known records None kept = tt
packages_known records (Some p) kept = ∥∥₁_elim (kept p refl) (packages_once records p) (λ are. are)

abbrev or_packages : List Package → Option (List Package) → List Package
or_packages q None = q
or_packages q (Some p) = p

pub packages_kept : (records : List Record) (packages : Option (List Package)) → IfSome packages (ArePackagesOf records) → ForSome packages (λ p. ∥ ArePackagesOf records p ∥₁)
packages_kept records None known p is = absurd cc
packages_kept records (Some q) known p is = ∣ subst (ArePackagesOf records) (ap (or_packages q) is) known ∣₁
