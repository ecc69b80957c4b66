-- Records in the order of their names' bytes, each package once.
use Rattle.std.specs.Prelude.{ℕ, List}
pub use Rattle.name_tables.specs.Order.{IsBefore}
use Rattle.name_tables.specs.Order as names
use Rattle.status_records.specs.declared.record.Record.{Record}

abbrev pub name_of : Record → List ℕ
name_of r = r.name

-- the name comes before those of all these records
abbrev pub IsBeforeAll : List ℕ → List Record → Type 0
IsBeforeAll = names.IsBeforeAll name_of

abbrev pub AreInOrder : List Record → Type 0
AreInOrder = names.AreInOrder name_of

abbrev pub names_of : List Record → List (List ℕ)
names_of = names.names_of name_of
