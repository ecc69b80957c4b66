-- Packages in the order of their names' bytes, one by one.
use Rattle.std.specs.Prelude.{ℕ, List}
pub use Rattle.name_tables.specs.Order.{IsBefore}
use Rattle.name_tables.specs.Order as names
use Rattle.relation_index.specs.declared.package.Package.{Package}

abbrev pub name_of : Package → List ℕ
name_of p = p.name

-- the name comes before those of all these packages
abbrev pub IsBeforeAll : List ℕ → List Package → Type 0
IsBeforeAll = names.IsBeforeAll name_of

abbrev pub AreInOrder : List Package → Type 0
AreInOrder = names.AreInOrder name_of
