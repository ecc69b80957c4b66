-- The package of a tree, as relations see it in a root of this architecture (Policy 7.1): nothing of it is installed yet.
use Rattle.std.specs.Prelude.{◌≡◌, ℕ, false, List, Option, None}
use Rattle.package_tree.specs.declared.package.Package.{Package as Tree}
use Rattle.relation_fields.specs.declared.relation_field.RelationField.TheVariants.{PreDepends, Depends, Breaks, Conflicts, Replaces}
use Rattle.relation_index.specs.declared.package.Package.{Package}
use Rattle.relation_index.specs.declared.package.PackageState.TheVariants.{NotInstalled}
use Rattle.stated_relations.specs.Relations.{StatesClauses, StatesProvides, architecture_of, counted_as, is_essential}

pub record IsIncomingPackage (root : Option (List ℕ)) (tree : Tree) (p : Package) : Type 0 where
  pub name : p.name ≡ tree.name
  pub architecture : p.architecture ≡ counted_as root (architecture_of tree.control)
  pub version : p.version ≡ tree.version
  pub state : p.state ≡ NotInstalled
  pub awaits : p.awaits ≡ false
  pub reinstreq : p.reinstreq ≡ false
  pub essential : p.essential ≡ is_essential tree.control
  pub configured : p.configured ≡ None
  pub removed_since : p.removed_since ≡ false
  pub provides : ∥ StatesProvides tree.control p.provides ∥₁
  pub pre_depends : ∥ StatesClauses PreDepends tree.control p.pre_depends ∥₁
  pub depends : ∥ StatesClauses Depends tree.control p.depends ∥₁
  pub breaks : ∥ StatesClauses Breaks tree.control p.breaks ∥₁
  pub conflicts : ∥ StatesClauses Conflicts tree.control p.conflicts ∥₁
  pub replaces : ∥ StatesClauses Replaces tree.control p.replaces ∥₁
