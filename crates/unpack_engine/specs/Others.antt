-- Other packages beside an unpack (Policy 6.6, 7.6): those that have rows, and those with whose files no path clashes.
use Rattle.std.specs.Prelude.{ℕ, ◌&&◌, Bool, List, filter, not}
use Rattle.std.specs.Str.{bytes_eq}
use Rattle.texts.specs.PackageNames.{is_package_name}
use Rattle.status_records.specs.Records.{AreApart, IsWithout}
use Rattle.status_records.specs.declared.record.Record.{Record}
use Rattle.unpack_rows.specs.EndStates.{AreRecorded}
use Rattle.unpack_rows.specs.ForwardRows.{AreOwn, records_of}
use Rattle.unpack_rows.specs.declared.rows.OtherPackage.{OtherPackage}

-- the packages that have rows beside that of this name: each row is of its package, the table has their records, and each is of a
-- name of its own
pub record AreOthers (name : List ℕ) (table : List Record) (others : List OtherPackage) : Type 0 where
  pub own : AreOwn others
  pub recorded : AreRecorded table (records_of others)
  pub unnamed : IsWithout name (records_of others)
  pub apart : AreApart (records_of others)

-- the name of a package, and not this one: only packages have lists
abbrev pub is_other_package : (own name : List ℕ) → Bool
is_other_package own name = is_package_name name && not (bytes_eq name own)

-- of these names those of other packages
abbrev pub yields_beside : List ℕ → List (List ℕ) → List (List ℕ)
yields_beside own names = filter (is_other_package own) names
