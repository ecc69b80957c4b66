-- The installed packages that an unpack removes, and those that remain.
use Rattle.std.specs.Prelude.{◌≡◌, List, map, IsTrue}
use Rattle.dependency_sets.specs.Choices.{IsListing}
use Rattle.dependency_check.specs.Deconfigured.{of_role}
use Rattle.dependency_check.specs.Roles.{plays}
use Rattle.dependency_check.specs.declared.dependents.Departure.{Departure}
use Rattle.dependency_check.specs.declared.roles.Role.TheVariants.{Going, Remaining}
use Rattle.relation_index.specs.declared.package.Package.{Package}

pub record IsDeparture (packages : List Package) (incoming : Package) (departure : Departure) : Type 0 where
  pub going : IsListing (λ x. IsTrue (of_role Going incoming packages x)) departure.going
  pub remaining : departure.remaining.items ≡ map (plays Remaining incoming) packages
