use Rattle.std.proofs.Common.{List, ℕ, subst, sym}
use Rattle.relation_index.specs.declared.package.Package.{Package}
use Rattle.dependency_check.specs.Breaking.{AreBreakers}
use Rattle.tests_sets.proofs.rows.a_broken_package_is_told_by_whom.Goals as goal

pub broken_by-requires : goal.broken_by-requires
broken_by-requires g c =
    subst (λ (numbers : List ℕ). AreBreakers c.in_ok-packages.packages numbers) (sym c.as_slice-2.ensures)
    (subst (λ (packages : List Package). AreBreakers packages c.in_ok-breakers.breakers) c.as_slice.ensures.list c.in_ok-breakers.ensures)
