-- That packages are those of records has one proof at most.
use Rattle.std.proofs.Common.{ℕ, Option, List, [], ◌∷◌}
use Rattle.std.proofs.Props.{props}
use Rattle.relation_index.specs.declared.package.Package.{Package}
use Rattle.status_records.specs.declared.record.Record.{Record}
use Rattle.recorded_packages.specs.Packages.{IsPackageOf, ArePackagesIn, ArePackagesOf, root_architecture}

package_once : (root : Option (List ℕ)) (r : Record) (p : Package) → IsProp (IsPackageOf root r p)
package_once root r p = hlevel props

in_once : (root : Option (List ℕ)) (rs : List Record) (ps : List Package) → IsProp (ArePackagesIn root rs ps)
in_once root [] [] = hlevel props
in_once root [] (p ∷ ps) = hlevel props
in_once root (r ∷ rs) [] = hlevel props
in_once root (r ∷ rs) (p ∷ ps) = λ a b i. (package_once root r p a.0 b.0 i, in_once root rs ps a.1 b.1 i)

pub packages_once : (rs : List Record) (ps : List Package) → IsProp (ArePackagesOf rs ps)
packages_once rs ps = in_once (root_architecture rs) rs ps
